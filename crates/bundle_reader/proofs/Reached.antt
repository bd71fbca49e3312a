-- Bytes that are read as frames.
use Rattle.std.proofs.Common.{◌≡◌, ◌∙◌, ℕ, ◌≤◌, true, false, List, [], ◌∷◌, ◌++◌, length, Option, Some, None, refl, sym, ap, subst, append_assoc}
use Rattle.std.specs.Prelude.{All}
use Rattle.std.proofs.lemmas.List.{append-nil}
use Rattle.std.proofs.lemmas.List.Elements.{All-head, All-tail, All-nil, All-cons}
use Rattle.bundle_reader.specs.declared.frame.Frame.{Frame}
use Rattle.bundle_reader.specs.declared.frame.Frame.TheVariants as frame
use Rattle.bundle_reader.specs.Frames.{payload, HasRanges, Begins}
use Rattle.bundle_reader.specs.Told.{BundleTold, ReadingTold, start, between, opening, entries, ended, closing, end}
use Rattle.bundle_reader.specs.Order.{taken, stocks_known, is_whole}
use Rattle.bundle_reader.specs.Bundle.{bundle_list, bundle_bytes, IsBundle}
use Rattle.bundle_reader.specs.Reads.{Reads, Reached}
use Rattle.bundle_reader.proofs.Runs.{takes, go_on, some_same, none_some}
use Rattle.bundle_reader.proofs.Bytes.{frame_bytes, all_bytes, bundle_are}
use Rattle.bundle_reader.proofs.Complete.{bundle_read}
use Rattle.bundle_reader.proofs.Sound.{read_list, IsSo, step}

-- ---- what was read so far

pub reads_more : (r last next : ReadingTold) (bytes rest after : List ℕ) (fs : List Frame) (f : Frame) → Reads r bytes fs last rest → Begins (stocks_known last) rest f after
    → taken last f ≡ Some next → Reads r bytes (fs ++ f ∷ []) next after
reads_more r last next bytes rest after [] f reads begins e =
    let P : ReadingTold → Type 0 = λ x. Begins (stocks_known x) bytes f after in
    let Q : List ℕ → Type 0 = λ l. Begins (stocks_known last) l f after in
    (next, after, subst P (sym reads.0) (subst Q (sym reads.1) begins), ap (λ x. taken x f) reads.0 ∙ e, (refl, refl))
reads_more r last next bytes rest after (g ∷ fs) f reads begins e =
    (reads.0, reads.1, reads.2, reads.3, reads_more reads.0 last next reads.1 rest after fs f reads.4 begins e)

pub reads_bytes : (r last : ReadingTold) (bytes rest : List ℕ) (fs : List Frame) → Reads r bytes fs last rest → bytes ≡ all_bytes fs ++ rest
reads_bytes r last bytes rest [] reads = reads.1
reads_bytes r last bytes rest (f ∷ fs) reads =
    reads.2.same ∙ ap (λ (l : List ℕ). frame_bytes f ++ l) (reads_bytes reads.0 last reads.1 rest fs reads.4) ∙ sym (append_assoc (frame_bytes f) (all_bytes fs) rest)

pub reads_list : (r last : ReadingTold) (bytes rest : List ℕ) (fs : List Frame) → Reads r bytes fs last rest → IsSo r → (read_list last ≡ read_list r ++ fs) × IsSo last
reads_list r last bytes rest [] reads so =
    (ap read_list (sym reads.0) ∙ sym (append-nil (read_list r)), subst IsSo reads.0 so)
reads_list r last bytes rest (f ∷ fs) reads so =
    let one = step r f reads.0 reads.3 so in
    let others = reads_list reads.0 last reads.1 rest fs reads.4 one.so in
    (others.0 ∙ ap (λ (l : List Frame). l ++ fs) one.list ∙ append_assoc (read_list r) (f ∷ []) fs, others.1)

pub reads_short : (r last : ReadingTold) (bytes rest : List ℕ) (fs : List Frame) → Reads r bytes fs last rest → All (λ f. length (payload f) ≤ 65535) fs
reads_short r last bytes rest [] reads = All-nil (λ f. length (payload f) ≤ 65535)
reads_short r last bytes rest (f ∷ fs) reads =
    All-cons (λ x. length (payload x) ≤ 65535) f fs reads.2.short (reads_short reads.0 last reads.1 rest fs reads.4)

-- ---- how many stocks there are

abbrev stocks_in : List Frame → Option ℕ
stocks_in [] = None
stocks_in (frame.Header h ∷ fs) = Some h.stocks
stocks_in (frame.Branch x ∷ fs) = None
stocks_in (frame.Message x ∷ fs) = None
stocks_in (frame.Event x ∷ fs) = None
stocks_in (frame.Edit x ∷ fs) = None
stocks_in (frame.Counts x ∷ fs) = None
stocks_in (frame.Stock x ∷ fs) = None
stocks_in (frame.Order x ∷ fs) = None
stocks_in (frame.Agent x ∷ fs) = None
stocks_in (frame.Waiting x ∷ fs) = None
stocks_in (frame.End x ∷ fs) = None

known_in : (r : ReadingTold) → stocks_known r ≡ stocks_in (read_list r)
known_in start = refl
known_in (between w) = refl
known_in (opening w b) = refl
known_in (entries w b es l) = refl
known_in (ended w b es m) = refl
known_in (closing w b es m c) = refl
known_in (end b) = refl

known_more : (r : ReadingTold) (fs : List Frame) (n : ℕ) → stocks_known r ≡ Some n → stocks_in (read_list r ++ fs) ≡ Some n
known_more start fs n e = absurd (none_some n e)
known_more (between w) fs n e = e
known_more (opening w b) fs n e = e
known_more (entries w b es l) fs n e = e
known_more (ended w b es m) fs n e = e
known_more (closing w b es m c) fs n e = e
known_more (end b) fs n e = e

known_next : (r next : ReadingTold) (f : Frame) (n : ℕ) → taken r f ≡ Some next → IsSo r → stocks_known r ≡ Some n → stocks_known next ≡ Some n
known_next r next f n e so known = known_in next ∙ ap stocks_in (step r f next e so).list ∙ known_more r (f ∷ []) n known

reads_ranges : (r last : ReadingTold) (bytes rest : List ℕ) (fs : List Frame) (n : ℕ) → Reads r bytes fs last rest → IsSo r → stocks_known r ≡ Some n
    → All (HasRanges (Some n)) fs × (stocks_known last ≡ Some n)
reads_ranges r last bytes rest [] n reads so known = (All-nil (HasRanges (Some n)), ap stocks_known (sym reads.0) ∙ known)
reads_ranges r last bytes rest (f ∷ fs) n reads so known =
    let others = reads_ranges reads.0 last reads.1 rest fs n reads.4 (step r f reads.0 reads.3 so).so (known_next r reads.0 f n reads.3 so known) in
    let P : Option ℕ → Type 0 = λ k. HasRanges k f in
    (All-cons (HasRanges (Some n)) f fs (subst P known reads.2.ranges) others.0, others.1)

-- a header is the first frame, and its ranges know no stocks
first_frame : (f : Frame) (next : ReadingTold) (n : ℕ) → taken start f ≡ Some next → HasRanges None f → HasRanges (Some n) f × ((k : ℕ) × (stocks_known next ≡ Some k))
unfolding taken
first_frame (frame.Header h) next n e ranges =
    (ranges, (h.stocks, ap stocks_known (sym (some_same (between (record { header = h; branches = [] })) next e))))
first_frame f next n e ranges = absurd (none_some next e)

start_is_none : (b : BundleTold) → start ≡ end b → ⊥
start_is_none b e = none_some b.stocks (ap stocks_known e)

-- all of a bundle was read
found_from : (bytes : List ℕ) (b : BundleTold) (fs : List Frame) → Reads start bytes fs (end b) [] → (bytes ≡ bundle_bytes b) × IsBundle b
found_from bytes b [] reads = absurd (start_is_none b reads.0)
found_from bytes b (f ∷ fs) reads =
    let list = reads_list start (end b) bytes [] (f ∷ fs) reads tt in
    let first = first_frame f reads.0 b.stocks reads.3 reads.2.ranges in
    let others = reads_ranges reads.0 (end b) reads.1 [] fs first.1.0 reads.4 (step start f reads.0 reads.3 tt).so first.1.1 in
    let same : first.1.0 ≡ b.stocks = sym (some_same b.stocks first.1.0 others.1) in
    let P : ℕ → Type 0 = λ n. All (HasRanges (Some n)) fs in
    let ranges = All-cons (HasRanges (Some b.stocks)) f fs first.0 (subst P same others.0) in
    let Q : List Frame → Type 0 = λ l. All (HasRanges (Some b.stocks)) l in
    let S : List Frame → Type 0 = λ l. All (λ x. length (payload x) ≤ 65535) l in (
      reads_bytes start (end b) bytes [] (f ∷ fs) reads ∙ append-nil (all_bytes (f ∷ fs)) ∙ ap all_bytes (sym list.0) ∙ bundle_are b,
      record {
        branches = list.1;
        ranges = subst Q (sym list.0) ranges;
        short = subst S (sym list.0) (reads_short start (end b) bytes [] (f ∷ fs) reads);
      },
    )

pub found : (bytes : List ℕ) (b : BundleTold) → Reached bytes (end b) [] → (bytes ≡ bundle_bytes b) × IsBundle b
found bytes b reached = found_from bytes b reached.frames reached.reads

-- ---- what is still to be read of a bundle

pub record IsAhead (r : ReadingTold) (rest : List ℕ) (b : BundleTold) : Type 0 where
  pub frames : List Frame
  pub same : rest ≡ all_bytes frames
  pub takes_all : takes r frames ≡ Some (end b)
  pub ranges : All (HasRanges (Some b.stocks)) frames
  pub short : All (λ f. length (payload f) ≤ 65535) frames

pub ahead_first : (bytes : List ℕ) (b : BundleTold) → IsBundle b → bytes ≡ bundle_bytes b → IsAhead start bytes b
ahead_first bytes b is e = record {
  frames = bundle_list b;
  same = e ∙ sym (bundle_are b);
  takes_all = bundle_read b is.branches;
  ranges = is.ranges;
  short = is.short;
}

-- frames that are taken are taken one by one
pub record TakesFirst (r last : ReadingTold) (f : Frame) (fs : List Frame) : Type 0 where
  pub next : ReadingTold
  pub one : taken r f ≡ Some next
  pub others : takes next fs ≡ Some last

takes_by : (r last : ReadingTold) (f : Frame) (fs : List Frame) (o : Option ReadingTold) → taken r f ≡ o → go_on o (λ n. takes n fs) ≡ Some last → TakesFirst r last f fs
takes_by r last f fs None is e = absurd (none_some last e)
takes_by r last f fs (Some next) is e = record { next = next; one = is; others = e }

takes_first : (r last : ReadingTold) (f : Frame) (fs : List Frame) → takes r (f ∷ fs) ≡ Some last → TakesFirst r last f fs
takes_first r last f fs e = takes_by r last f fs (taken r f) refl e

takes_known : (r : ReadingTold) (fs : List Frame) (b : BundleTold) (n : ℕ) → IsSo r → takes r fs ≡ Some (end b) → stocks_known r ≡ Some n → n ≡ b.stocks
takes_known r [] b n so e known = some_same n b.stocks (sym known ∙ ap stocks_known (some_same r (end b) e))
takes_known r (f ∷ fs) b n so e known =
    let t = takes_first r (end b) f fs e in
    takes_known t.next fs b n (step r f t.next t.one so).so t.others (known_next r t.next f n t.one so known)

first_back : (f : Frame) (next : ReadingTold) (n : ℕ) → taken start f ≡ Some next → HasRanges (Some n) f → HasRanges None f
unfolding taken
first_back (frame.Header h) next n e ranges = ranges
first_back f next n e ranges = absurd (none_some next e)

known_ranges : (r : ReadingTold) (f : Frame) (fs : List Frame) (b : BundleTold) (k : ℕ) → IsSo r → takes r (f ∷ fs) ≡ Some (end b) → stocks_known r ≡ Some k
    → HasRanges (Some b.stocks) f → HasRanges (stocks_known r) f
known_ranges r f fs b k so e known ranges =
    let P : Option ℕ → Type 0 = λ o. HasRanges o f in
    subst P (sym (known ∙ ap Some (takes_known r (f ∷ fs) b k so e known))) ranges

ranges_there : (r next : ReadingTold) (f : Frame) (fs : List Frame) (b : BundleTold) → IsSo r → takes r (f ∷ fs) ≡ Some (end b) → taken r f ≡ Some next
    → HasRanges (Some b.stocks) f → HasRanges (stocks_known r) f
ranges_there start next f fs b so e one ranges = first_back f next b.stocks one ranges
ranges_there (between w) next f fs b so e one ranges = known_ranges (between w) f fs b w.header.stocks so e refl ranges
ranges_there (opening w g) next f fs b so e one ranges = known_ranges (opening w g) f fs b w.header.stocks so e refl ranges
ranges_there (entries w g es l) next f fs b so e one ranges = known_ranges (entries w g es l) f fs b w.header.stocks so e refl ranges
ranges_there (ended w g es m) next f fs b so e one ranges = known_ranges (ended w g es m) f fs b w.header.stocks so e refl ranges
ranges_there (closing w g es m c) next f fs b so e one ranges = known_ranges (closing w g es m c) f fs b w.header.stocks so e refl ranges
ranges_there (end c) next f fs b so e one ranges = known_ranges (end c) f fs b c.stocks so e refl ranges

-- the next frame of a bundle that isn't read to its end
pub record IsNextOf (r : ReadingTold) (rest : List ℕ) (b : BundleTold) : Type 0 where
  pub f : Frame
  pub after : List ℕ
  pub next : ReadingTold
  pub begins : Begins (stocks_known r) rest f after
  pub one : taken r f ≡ Some next
  pub ahead : IsAhead next after b

ahead_by : (r : ReadingTold) (rest : List ℕ) (b : BundleTold) (frames : List Frame) → IsSo r → is_whole r ≡ false → rest ≡ all_bytes frames → takes r frames ≡ Some (end b)
    → All (HasRanges (Some b.stocks)) frames → All (λ f. length (payload f) ≤ 65535) frames → IsNextOf r rest b
ahead_by r rest b [] so goes_on same e ranges short =
    let whole : is_whole r ≡ true = ap is_whole (some_same r (end b) e) in absurd (cc (whole, goes_on))
ahead_by r rest b (f ∷ fs) so goes_on same e ranges short =
    let t = takes_first r (end b) f fs e in
    record {
      f = f;
      after = all_bytes fs;
      next = t.next;
      begins = record {
        same = same;
        short = All-head (λ x. length (payload x) ≤ 65535) f fs short;
        ranges = ranges_there r t.next f fs b so e t.one (All-head (HasRanges (Some b.stocks)) f fs ranges);
      };
      one = t.one;
      ahead = record {
        frames = fs;
        same = refl;
        takes_all = t.others;
        ranges = All-tail (HasRanges (Some b.stocks)) f fs ranges;
        short = All-tail (λ x. length (payload x) ≤ 65535) f fs short;
      };
    }

pub ahead_step : (r : ReadingTold) (rest : List ℕ) (b : BundleTold) → IsSo r → is_whole r ≡ false → IsAhead r rest b → IsNextOf r rest b
ahead_step r rest b so goes_on is = ahead_by r rest b is.frames so goes_on is.same is.takes_all is.ranges is.short

end_takes_none : (b : BundleTold) (f : Frame) → taken (end b) f ≡ None
unfolding taken
end_takes_none b f = refl

-- behind the end stands nothing
ahead_end_by : (c b : BundleTold) (rest : List ℕ) (frames : List Frame) → rest ≡ all_bytes frames → takes (end c) frames ≡ Some (end b) → (rest ≡ []) × (end c ≡ end b)
ahead_end_by c b rest [] same e = (same, some_same (end c) (end b) e)
ahead_end_by c b rest (f ∷ fs) same e =
    let t = takes_first (end c) (end b) f fs e in
    absurd (none_some t.next (sym (end_takes_none c f) ∙ t.one))

pub ahead_end : (c b : BundleTold) (rest : List ℕ) → IsAhead (end c) rest b → (rest ≡ []) × (end c ≡ end b)
ahead_end c b rest is = ahead_end_by c b rest is.frames is.same is.takes_all
