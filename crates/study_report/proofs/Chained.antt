-- The segments along a full run, gone over from the last one up, and two runs that share the first of them.
use Rattle.std.proofs.Common.{◌≡◌, ◌∙◌, ℕ, ◌<◌, Bool, List, [], ◌∷◌, ◌++◌, Option, Some, None, length, take, drop, ap, ap₂, sym, subst, append-nil, append_assoc, take-append-drop}
use Rattle.std.specs.Prelude.{if◌then◌else◌, reverse}
use Rattle.std.proofs.lemmas.Bool.{ne_eqb}
use Rattle.std.proofs.lemmas.List.{reverse-append}
use Rattle.std.proofs.lemmas.List.Concat.{flat_map-append}
use Rattle.std.proofs.lemmas.List.Elements.{All-cons, All-nil}
use Rattle.market_types.specs.Told.{EntryTold}
use Rattle.branch_tree.specs.Plan.{parent_at}
use Rattle.branch_tree.specs.Segments.{segments_in, segment_at, last_of}
use Rattle.kernel_core.specs.Until.{Run}
use Rattle.kernel_copy.specs.Courses.{CourseTold, IsCourse}
use Rattle.kernel_copy.specs.Segmentwise.{parent_end, segment_end}
use Rattle.kernel_copy.proofs.Trees.{course-tree}
use Rattle.kernel_copy.proofs.Walks.{full-last, segment-copy}
use Rattle.study_report.specs.Chains.{AreSegments, IsChainOf, entries_along, entries_at}
use Rattle.study_report.specs.Difference.{events_in, first_apart, first_difference_of}
use Rattle.study_report.specs.Tables.{difference, run_of}
use Rattle.study_report.proofs.Apart.{apart-behind, apart-numbered}
use Rattle.study_report.proofs.Numbering.{counted-full}
use Rattle.study_report.proofs.ReportParts.{events_in-append}

-- the entries up to the end of a segment's parent
abbrev entries_up_to : CourseTold → Option ℕ → List EntryTold
entries_up_to c parent = (parent_end c.opening c.plan parent).entries

-- A full run's entries are those up to a segment's parent, and those of the segments from this one on, of which the last one
-- stands first.
pub record IsClimbed (c : CourseTold) (b s : ℕ) (climbed : List ℕ) : Type 0 where
  pub exists : s < length (segments_in c.plan)
  pub segments : AreSegments c (reverse climbed)
  pub entries : (run_of c b).entries ≡ entries_up_to c (segment_at c.plan s).parent ++ entries_along c (reverse climbed)

end_is : (c : CourseTold) (s : ℕ) → IsCourse c → s < length (segments_in c.plan)
    → (segment_end c.opening c.plan (segment_at c.plan s)).entries ≡ entries_up_to c (segment_at c.plan s).parent ++ entries_at c s
end_is c s course within = ap (λ (r : Run). r.entries) (segment-copy c.opening c.plan s (course-tree c course) course.limit within)

-- the last segment of a branch
pub climbed-last : (c : CourseTold) (b s : ℕ) (new : List ℕ) → IsCourse c → b < length c.plan.branches → s ≡ last_of c.plan.branches b → s < length (segments_in c.plan) → new ≡ s ∷ [] → IsClimbed c b s new
climbed-last c b s new course branch last within pushed =
    let whole : (run_of c b).entries ≡ (segment_end c.opening c.plan (segment_at c.plan s)).entries =
    ap (λ (r : Run). r.entries) (full-last c.opening c.plan b (course-tree c course) course.limit branch)
    ∙ ap (λ (k : ℕ). (segment_end c.opening c.plan (segment_at c.plan k)).entries) (sym last) in
    let alone : entries_at c s ≡ entries_along c (s ∷ []) = sym (append-nil (entries_at c s)) in
    let climbed : IsClimbed c b s (s ∷ []) = record {
      exists = within;
      segments = All-cons (λ (k : ℕ). k < length (segments_in c.plan)) s [] within (All-nil (λ (k : ℕ). k < length (segments_in c.plan)));
      entries = whole ∙ end_is c s course within ∙ ap (λ (es : List EntryTold). entries_up_to c (segment_at c.plan s).parent ++ es) alone;
    } in
    subst (λ (xs : List ℕ). IsClimbed c b s xs) (sym pushed) climbed

-- one segment farther up
pub climbed-more : (c : CourseTold) (b s q : ℕ) (climbed new : List ℕ) → IsCourse c → q < length (segments_in c.plan) → (segment_at c.plan s).parent ≡ Some q → new ≡ climbed ++ q ∷ []
    → IsClimbed c b s climbed → IsClimbed c b q new
climbed-more c b s q climbed new course within is pushed h =
    let rest = entries_along c (reverse climbed) in
    let turned : reverse new ≡ q ∷ reverse climbed = ap reverse pushed ∙ reverse-append climbed (q ∷ []) in
    record {
      exists = within;
      segments = subst (λ (xs : List ℕ). AreSegments c xs) (sym turned) (All-cons (λ (k : ℕ). k < length (segments_in c.plan)) q (reverse climbed) within h.segments);
      entries =
          h.entries
          ∙ ap (λ (x : Option ℕ). entries_up_to c x ++ rest) is
          ∙ ap (λ (es : List EntryTold). es ++ rest) (end_is c q course within)
          ∙ append_assoc (entries_up_to c (segment_at c.plan q).parent) (entries_at c q) rest
          ∙ ap (λ (xs : List ℕ). entries_up_to c (segment_at c.plan q).parent ++ entries_along c xs) (sym turned);
    }

-- the first segment of all
pub climbed-all : (c : CourseTold) (b s : ℕ) (climbed chain : List ℕ) → (segment_at c.plan s).parent ≡ None → chain ≡ reverse climbed → IsClimbed c b s climbed → IsChainOf c b chain
climbed-all c b s climbed chain none turned h =
    let whole : IsChainOf c b (reverse climbed) = record {
      segments = h.segments;
      entries = h.entries ∙ ap (λ (x : Option ℕ). entries_up_to c x ++ entries_along c (reverse climbed)) none;
    } in
    subst (λ (xs : List ℕ). IsChainOf c b xs) (sym turned) whole

-- the records of a run are those of the segments that are shared and of those behind them
records-parted : (c : CourseTold) (b : ℕ) (chain : List ℕ) (k : ℕ) → IsChainOf c b chain
    → events_in (entries_along c (take k chain)) ++ events_in (entries_along c (drop k chain)) ≡ events_in (run_of c b).entries
records-parted c b chain k h =
    sym (events_in-append (entries_along c (take k chain)) (entries_along c (drop k chain)))
    ∙ ap events_in (sym (flat_map-append (λ (s : ℕ). entries_at c s) (take k chain) (drop k chain)) ∙ ap (λ (xs : List ℕ). entries_along c xs) (take-append-drop k chain) ∙ sym h.entries)

-- two runs that share their first segments part behind them
pub apart-behind_shared : (c : CourseTold) (a b : ℕ) (own others : List ℕ) (k : ℕ) → IsChainOf c a own → IsChainOf c b others → take k own ≡ take k others
    → first_apart (events_in (entries_along c (drop k own))) (events_in (entries_along c (drop k others))) ≡ first_difference_of (run_of c a).entries (run_of c b).entries
apart-behind_shared c a b own others k h g same =
    let shared = events_in (entries_along c (take k own)) in
    let rs = events_in (entries_along c (drop k own)) in
    let ss = events_in (entries_along c (drop k others)) in
    let theirs : shared ++ ss ≡ events_in (run_of c b).entries = ap (λ (xs : List ℕ). events_in (entries_along c xs) ++ ss) same ∙ records-parted c b others k g in
    sym (apart-behind shared rs ss)
    ∙ ap₂ first_apart (records-parted c a own k h) theirs
    ∙ apart-numbered 1 (events_in (run_of c a).entries) (events_in (run_of c b).entries) (counted-full c.opening c.plan a c.opening.limit).numbered (counted-full c.opening c.plan b c.opening.limit).numbered

-- a branch after the root differs from its parent
pub difference-later : (c : CourseTold) (b parent : ℕ) → (b ≡ 0 → ⊥) → parent ≡ parent_at c.plan.branches b → first_difference_of (run_of c b).entries (run_of c parent).entries ≡ difference c b
difference-later c b parent later is =
    ap (λ (p : ℕ). first_difference_of (run_of c b).entries (run_of c p).entries) is
    ∙ ap (λ (root : Bool). if root then 0 else first_difference_of (run_of c b).entries (run_of c (parent_at c.plan.branches b)).entries) (sym (ne_eqb b 0 later))
