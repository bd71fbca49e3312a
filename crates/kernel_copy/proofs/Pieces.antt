-- Runs that go on, and what is kept of them.
use Rattle.std.proofs.Common.{◌≡◌, ℕ, ◌-◌, zero, suc, List, [], ◌∷◌, ◌++◌, All, map, Option, Some, None, Result, Ok, Err, OnOk, min, refl, sym, ap, ◌∙◌, ◌+◌, length, subst, append_assoc, append-nil, arith, length-append}
use Rattle.std.specs.List.{flat_map, sum}
use Rattle.std.proofs.lemmas.Grind.{flat_map-append}
use Rattle.std.proofs.lemmas.List.{get_or-map, length-map}
use Rattle.std.proofs.lemmas.List.Folds.{flat_map-map}
use Rattle.std.proofs.lemmas.List.Sums.{sum_by-append}
use Rattle.market_types.specs.declared.entry.Entry.{Entry}
use Rattle.market_types.specs.Told.{EntryTold, EventTold, event, edit, entry_told}
use Rattle.market_types.specs.Timely.{IsTimely}
use Rattle.market_floor.specs.declared.opening.Opening.{Opening}
use Rattle.bundle_frames.specs.Frames.{entry_frames, event_frames}
use Rattle.kernel_core.specs.State.{State}
use Rattle.kernel_core.specs.Step.{Happened, step_of}
use Rattle.kernel_core.specs.Until.{Run, behind, with_event, advanced, advanced_by, until}
use Rattle.kernel_core.specs.Due.{until_time}
use Rattle.kernel_core.specs.Seen.{folded, listed}
use Rattle.kernel_core.proofs.Fresh.{events-until, events-until_time, folded-listed}
use Rattle.kernel_core.proofs.Stops.{until-behind}
use Rattle.kernel_core.proofs.Times.{time-some}
use Rattle.branch_tree.specs.declared.stop.Stop.{Stop}
use Rattle.branch_tree.specs.declared.stop.Stop.TheVariants.{At, When}
use Rattle.kernel_copy.specs.Segmentwise.{afresh}
use Rattle.kernel_copy.specs.UntilStop.{until_part}
use Rattle.kernel_copy.proofs.Halts.{part-behind}
use Rattle.kernel_copy.specs.declared.kept.Keep.{Keep}
use Rattle.kernel_copy.specs.declared.kept.Keep.TheVariants as keep
use Rattle.kernel_copy.specs.Kept.{KeepsFrames, KeptTold, frames, kept_as, kept_with, frames_of, tallied, with_event_frames, with_event_tally, IsWritable}
use Rattle.kernel_copy.specs.Tallies.{tally_of, tally_with}
use Rattle.kernel_copy.specs.declared.tally.Tally.{Tally}
use Rattle.kernel_copy.specs.Ran.{RanTold, ran_as, ran_with}

-- bytes behind others
tally-more : (t : Tally) (a b : List ℕ) → tally_with (tally_with t a) b ≡ tally_with t (a ++ b)
tally-more t a b =
    let count : t.count + length a + length b ≡ t.count + length (a ++ b) = omega (arith, length-append a b) in
    let total : t.total + sum a + sum b ≡ t.total + sum (a ++ b) = omega (arith, sum_by-append (λ (x : ℕ). x) a b) in
    λ i. record { count = count i; total = total i }

tally-behind : (a b : List ℕ) → tally_with (tally_of a) b ≡ tally_of (a ++ b)
tally-behind a b =
    let count : length a + length b ≡ length (a ++ b) = omega (arith, length-append a b) in
    let total : sum a + sum b ≡ sum (a ++ b) = omega (arith, sum_by-append (λ (x : ℕ). x) a b) in
    λ i. record { count = count i; total = total i }

pub as_with : (k : Keep) (xs ys : List EntryTold) → kept_with (kept_as k xs) ys ≡ kept_as k (xs ++ ys)
as_with keep.Entries xs ys = refl
as_with keep.Frames xs ys = ap (λ (b : List ℕ). frames b) (sym (flat_map-append entry_frames xs ys))
as_with keep.Tallied xs ys =
    ap (λ (t : Tally). tallied t) (tally-behind (flat_map entry_frames xs) (flat_map entry_frames ys) ∙ ap (λ (b : List ℕ). tally_of b) (sym (flat_map-append entry_frames xs ys)))
as_with keep.Nothing xs ys = refl

-- where frames are kept, they are those of the entries
pub frames_as : (k : Keep) (xs : List EntryTold) → KeepsFrames k → frames_of (kept_as k xs) ≡ flat_map entry_frames xs
frames_as keep.Entries xs keeps = refl
frames_as keep.Frames xs keeps = refl
frames_as keep.Tallied xs keeps = absurd keeps
frames_as keep.Nothing xs keeps = absurd keeps

pub timely_as : (k : Keep) (xs : List EntryTold) → All IsTimely xs → IsWritable (kept_as k xs)
timely_as keep.Entries xs all = all
timely_as keep.Frames xs all = tt
timely_as keep.Tallied xs all = tt
timely_as keep.Nothing xs all = tt

-- the frames of entries are those of what they tell
pub frames_told : (xs : List Entry) (ys : List EntryTold) → map entry_told xs ≡ ys → flat_map (λ (e : Entry). entry_frames (entry_told e)) xs ≡ flat_map entry_frames ys
frames_told xs ys e = sym (flat_map-map entry_frames entry_told xs) ∙ ap (λ (zs : List EntryTold). flat_map entry_frames zs) e

-- what holds of each entry as it is told
pub all_told : (P : EntryTold → Type 0) (xs : List Entry) → All P (map entry_told xs) → All (λ (x : Entry). P (entry_told x)) xs
all_told P xs all = λ i d within. subst P (get_or-map entry_told xs i d (entry_told d) within) (all i (entry_told d) (omega (arith, length-map xs entry_told)))

-- a run as one that begins afresh, behind its entries
pub fresh : (r : Run) → r ≡ behind r.entries (afresh r.state)
fresh r = ap (λ (es : List EntryTold). let q : Run = record { state = r.state; entries = es } in q) (sym (append-nil r.entries))

pub until_fresh : (o : Opening) (n : ℕ) (r : Run) → until o n r ≡ behind r.entries (until o n (afresh r.state))
until_fresh o n r = ap (λ (q : Run). until o n q) (fresh r) ∙ until-behind o n r.entries (afresh r.state)

pub part_fresh : (o : Opening) (s : Stop) (n : ℕ) (r : Run) → until_part o s n r ≡ behind r.entries (until_part o s n (afresh r.state))
part_fresh o s n r = ap (λ (q : Run). until_part o s n q) (fresh r) ∙ part-behind o s n r.entries (afresh r.state)

-- a run that goes on afresh comes to the same state
pub state_afresh : (o : Opening) (n : ℕ) (r : Run) → (until o n (afresh r.state)).state ≡ (until o n r).state
state_afresh o n r = sym (ap (λ (q : Run). q.state) (until_fresh o n r))

-- and what is kept of it is what is kept of the run
pub goes_on_kept : (k : Keep) (o : Opening) (s : Stop) (n : ℕ) (r : Run) → ran_with (ran_as k r) (until_part o s n (afresh r.state)) ≡ ran_as k (until_part o s n r)
goes_on_kept k o s n r =
    let more = until_part o s n (afresh r.state) in
    ap (λ (t : KeptTold). let x : RanTold = record { state = more.state; kept = t } in x) (as_with k r.entries more.entries)
    ∙ ap (λ (q : Run). ran_as k q) (sym (part_fresh o s n r))

folded-more : (bytes : List ℕ) (es : List EntryTold) (e : EventTold) → folded with_event_frames bytes (es ++ event e ∷ []) ≡ with_event_frames (folded with_event_frames bytes es) e
folded-more bytes [] e = refl
folded-more bytes (event d ∷ es) e = folded-more (with_event_frames bytes d) es e
folded-more bytes (edit m ∷ es) e = folded-more bytes es e

-- the frames of one event more
one-more : (es : List EntryTold) (e : EventTold) → flat_map entry_frames (es ++ event e ∷ []) ≡ flat_map entry_frames es ++ event_frames e
one-more es e = flat_map-append entry_frames es (event e ∷ []) ∙ ap (λ (l : List ℕ). flat_map entry_frames es ++ l) (append-nil (event_frames e))

-- Bytes to which the frames of the events among these entries were appended one after another have the frames of all of them.
abbrev pub AreAppended : List ℕ → List EntryTold → Type 0
AreAppended bytes es = folded with_event_frames bytes es ≡ bytes ++ flat_map entry_frames es

-- that stays so in a run, in which each entry more is an event
appended-event : (bytes : List ℕ) (r : Run) (h : Option Happened) → AreAppended bytes r.entries → AreAppended bytes (with_event r h).entries
appended-event bytes r None is = is
appended-event bytes r (Some h) is =
    let e = h.entry in
    folded-more bytes r.entries e ∙ ap (λ (l : List ℕ). l ++ event_frames e) is
    ∙ append_assoc bytes (flat_map entry_frames r.entries) (event_frames e)
    ∙ ap (λ (l : List ℕ). bytes ++ l) (sym (one-more r.entries e))

appended-one : (bytes : List ℕ) (o : Opening) (r : Run) → AreAppended bytes r.entries → AreAppended bytes (advanced o r).entries
unfolding advanced
appended-one bytes o r is = appended-event bytes r (step_of o r.state) is

appended-by : (bytes : List ℕ) (n : ℕ) (o : Opening) (r : Run) → AreAppended bytes r.entries → AreAppended bytes (advanced_by n o r).entries
appended-by bytes zero o r is = is
appended-by bytes (suc n) o r is = appended-by bytes n o (advanced o r) (appended-one bytes o r is)

until-appends : (bytes : List ℕ) (o : Opening) (n : ℕ) (s : State) → AreAppended bytes (until o n (afresh s)).entries
until-appends bytes o n s = appended-by bytes (n - s.events) o (afresh s) (sym (append-nil bytes))

time-appends : (bytes : List ℕ) (o : Opening) (when most : ℕ) (s : State) → AreAppended bytes (until_time o when most (afresh s)).entries
time-appends bytes o when most s =
    let r : Run = afresh s in
    let p = time-some (most - s.events) o when r in
    subst (λ (q : Run). AreAppended bytes q.entries) (sym p.1) (appended-by bytes p.0 o r (sym (append-nil bytes)))

-- the frames that a run to a stop appends
pub part-appends : (bytes : List ℕ) (o : Opening) (t : Stop) (most : ℕ) (s : State) → AreAppended bytes (until_part o t most (afresh s)).entries
part-appends bytes o (At n) most s = until-appends bytes o (min n most) s
part-appends bytes o (When w) most s = time-appends bytes o w most s

-- a tally of frames is the tally of the bytes that were appended
folded-tally : (t : Tally) (bytes : List ℕ) (es : List EntryTold) → folded with_event_tally (tally_with t bytes) es ≡ tally_with t (folded with_event_frames bytes es)
folded-tally t bytes [] = refl
folded-tally t bytes (event e ∷ es) =
    ap (λ (u : Tally). folded with_event_tally u es) (tally-more t bytes (event_frames e)) ∙ folded-tally t (with_event_frames bytes e) es
folded-tally t bytes (edit m ∷ es) = folded-tally t bytes es

tally-nothing : (t : Tally) → t ≡ tally_with t []
tally-nothing t =
    let count : t.count ≡ t.count + 0 = omega arith in
    let total : t.total ≡ t.total + 0 = omega arith in
    λ i. record { count = count i; total = total i }

-- and the tally of the frames that a run to a stop appends
pub part-tallies : (tally : Tally) (o : Opening) (t : Stop) (most : ℕ) (s : State)
    → folded with_event_tally tally (until_part o t most (afresh s)).entries ≡ tally_with tally (flat_map entry_frames (until_part o t most (afresh s)).entries)
part-tallies tally o t most s =
    let es = (until_part o t most (afresh s)).entries in
    ap (λ (u : Tally). folded with_event_tally u es) (tally-nothing tally) ∙ folded-tally tally [] es ∙ ap (λ (b : List ℕ). tally_with tally b) (part-appends [] o t most s)

-- and the entries that it lists
pub part-lists : (xs : List EntryTold) (o : Opening) (t : Stop) (most : ℕ) (s : State) → folded listed xs (until_part o t most (afresh s)).entries ≡ xs ++ (until_part o t most (afresh s)).entries
part-lists xs o (At n) most s = folded-listed xs (until o (min n most) (afresh s)).entries (events-until o (min n most) s)
part-lists xs o (When w) most s = folded-listed xs (until_time o w most (afresh s)).entries (events-until_time o w most s)

-- a fact of an `Ok` leads to another
pub then-ok : {X E A B : Type 0} (r : Result X E) → OnOk r A → (A → B) → OnOk r B
then-ok (Ok x) a f = f a
then-ok (Err e) a f = tt
