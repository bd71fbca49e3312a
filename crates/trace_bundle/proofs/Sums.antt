-- The numbers of the lines.
use Rattle.std.proofs.Common.{◌≡◌, ℕ, ◌+◌, List, [], ◌∷◌, ◌++◌, length, ap, ◌∙◌, sym, add-one, append_assoc}
use Rattle.std.specs.Prelude.{codes}
use Rattle.std.specs.Fmt.{decimal}
use Rattle.kernel_copy.specs.Courses.{CourseTold}
use Rattle.kernel_copy.specs.Full.{full_run}
use Rattle.kernel_copy.specs.Segmentwise as segmentwise
use Rattle.trace_bundle.specs.Report.{big_lines_of, bundle_size, byte_sum, events_before, line, six_lines}

-- the events of one branch more
pub events-more : (c : CourseTold) (b : ℕ) → events_before c (b + 1) ≡ events_before c b + (full_run c.opening c.plan b).state.events
events-more c b = ap (λ (n : ℕ). events_before c n) (add-one b)

-- the lines of a course's numbers
pub lines-told : (study branches events distinct size total : ℕ) (c : CourseTold) → branches ≡ length c.plan.branches
    → events ≡ events_before c (length c.plan.branches) → distinct ≡ segmentwise.distinct c.opening c.plan → size ≡ bundle_size c → total ≡ byte_sum c
    → six_lines study branches events distinct size total ≡ big_lines_of study c
unfolding big_lines_of
lines-told study branches events distinct size total c b e d s t = λ i. six_lines study (b i) (e i) (d i) (s i) (t i)

-- a line before more text
line-before : (name : List ℕ) (number : ℕ) (more : List ℕ) → line name number ++ more ≡ name ++ 32 ∷ (decimal number ++ 10 ∷ more)
line-before name number more =
    append_assoc (name ++ 32 ∷ decimal number) (10 ∷ []) more ∙ append_assoc name (32 ∷ decimal number) (10 ∷ more)

line-more : (name : List ℕ) (number : ℕ) (before after : List ℕ) → before ≡ after → line name number ++ before ≡ name ++ 32 ∷ (decimal number ++ 10 ∷ after)
line-more name number before after is = line-before name number before ∙ ap (λ (bytes : List ℕ). name ++ 32 ∷ (decimal number ++ 10 ∷ bytes)) is

-- six pieces, one behind another
six-pieces : (a b c d e f : List ℕ) → a ++ b ++ c ++ d ++ e ++ f ≡ a ++ (b ++ (c ++ (d ++ (e ++ f))))
six-pieces a b c d e f =
    append_assoc (a ++ b ++ c ++ d) e f
    ∙ append_assoc (a ++ b ++ c) d (e ++ f)
    ∙ append_assoc (a ++ b) c (d ++ (e ++ f))
    ∙ append_assoc a b (c ++ (d ++ (e ++ f)))

-- the last line
line-alone : (name : List ℕ) (number : ℕ) → line name number ≡ name ++ 32 ∷ (decimal number ++ 10 ∷ [])
line-alone name number = append_assoc name (32 ∷ decimal number) (10 ∷ [])

-- twelve pieces and one behind them
piece-before : (a before after m : List ℕ) → before ++ m ≡ after → (a ++ before) ++ m ≡ a ++ after
piece-before a before after m is = append_assoc a before m ∙ ap (λ (bytes : List ℕ). a ++ bytes) is

text-pieces : (a b c d e f g h i j k l m : List ℕ) → (a ++ (b ++ (c ++ (d ++ (e ++ (f ++ (g ++ (h ++ (i ++ (j ++ (k ++ l))))))))))) ++ m
    ≡ a ++ (b ++ (c ++ (d ++ (e ++ (f ++ (g ++ (h ++ (i ++ (j ++ (k ++ (l ++ m)))))))))))
text-pieces a b c d e f g h i j k l m =
    piece-before a _ _ m (piece-before b _ _ m (piece-before c _ _ m (piece-before d _ _ m (piece-before e _ _ m (piece-before f _ _ m
    (piece-before g _ _ m (piece-before h _ _ m (piece-before i _ _ m (piece-before j _ _ m (append_assoc k l m))))))))))

-- the lines as one text
pub lines-joined : (study branches events distinct size total : ℕ)
    → (codes "study bytes " ++ (decimal study ++ (codes "\nbranches " ++ (decimal branches ++ (codes "\nevents " ++ (decimal events
    ++ (codes "\ndistinct " ++ (decimal distinct ++ (codes "\nbundle bytes " ++ (decimal size ++ (codes "\nbyte sum " ++ decimal total))))))))))) ++ codes "\n"
    ≡ six_lines study branches events distinct size total
lines-joined study branches events distinct size total =
    text-pieces (codes "study bytes ") (decimal study) (codes "\nbranches ") (decimal branches) (codes "\nevents ") (decimal events)
    (codes "\ndistinct ") (decimal distinct) (codes "\nbundle bytes ") (decimal size) (codes "\nbyte sum ") (decimal total) (codes "\n")
    ∙ sym (
    six-pieces (line (codes "study bytes") study) (line (codes "branches") branches) (line (codes "events") events)
    (line (codes "distinct") distinct) (line (codes "bundle bytes") size) (line (codes "byte sum") total)
    ∙ line-more (codes "study bytes") study _ _
    (line-more (codes "branches") branches _ _
    (line-more (codes "events") events _ _
    (line-more (codes "distinct") distinct _ _
    (line-more (codes "bundle bytes") size _ _ (line-alone (codes "byte sum") total))))))
