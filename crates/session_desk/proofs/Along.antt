-- A branch's full run from its parent's.
use Rattle.std.proofs.Common.{◌≡◌, ◌<◌, ◌≤◌, ℕ, true, false, Bool, List, [], ◌∷◌, ◌++◌, length, min, refl, sym, ap, ◌∙◌, arith, append-nil, inl, inr, true≢false}
use Rattle.std.specs.Prelude.{if◌then◌else◌, nat_le, nat_lt}
use Rattle.std.proofs.lemmas.Bool.{cases_lt, le-leb, lt-leb, lt-ltb, le-ltb, ltb-true}
use Rattle.market_types.specs.Told.{EntryTold}
use Rattle.branch_tree.specs.declared.branch.Branch.{Branch}
use Rattle.branch_tree.specs.declared.stop.Stop.{Stop}
use Rattle.branch_tree.specs.declared.stop.Stop.TheVariants.{At}
use Rattle.branch_tree.specs.Stops.{number_of}
use Rattle.branch_tree.specs.Plan.{Plan, branch_at, parent_at, stop_at}
use Rattle.branch_tree.proofs.PathLemmas.{rest-more}
use Rattle.market_floor.specs.declared.opening.Opening.{Opening}
use Rattle.kernel_core.specs.State.{State}
use Rattle.kernel_core.specs.Step.{end_of}
use Rattle.kernel_core.specs.Until.{Run, behind, until}
use Rattle.kernel_core.proofs.EditRuns.{edited-behind, edited-events}
use Rattle.kernel_core.proofs.Stops.{end_cases, until-behind, until-grows, until-past, until-until, until-within}
use Rattle.kernel_core.proofs.Times.{until-short}
use Rattle.kernel_core.specs.Edited.{edited}
use Rattle.kernel_core.specs.Open.{opened}
use Rattle.market_rules.specs.declared.edit.Edit.{Edit}
use Rattle.kernel_copy.specs.Full.{edited_by, forks_of, full, full_along, opening_run}
use Rattle.kernel_copy.specs.Segmentwise.{afresh}
use Rattle.kernel_copy.specs.UntilStop.{until_part, until_stop}
use Rattle.kernel_copy.proofs.Halts.{stop-grows}
use Rattle.kernel_copy.proofs.Pieces.{fresh}
use Rattle.rewind_desk.specs.Reach.{has_more}
use Rattle.rewind_desk.proofs.Halting.{part-before, part-more, part-whole, stop-at as number-at}
use Rattle.session_desk.specs.Session.{SessionTold, IsSession, full_in, last_event_in, tree_of}
use Rattle.session_desk.specs.Along.{onward}
use Rattle.session_desk.proofs.Numbered.{IsNumbered, LeaveBy, forks-by, number_at, numbered}

-- a run that stands at an event number at most goes no further to a stop by it
until-by : (o : Opening) (m n : ℕ) (r : Run) → m ≤ n → r.state.events ≤ n → (until o m r).state.events ≤ n
until-by o m n r l low = elim (cases_lt m r.state.events) [
  | inl past ↦ omega (arith, low, ap (λ (q : Run). q.state.events) (until-past o m r (omega (arith, past))))
  | inr ahead ↦ omega (arith, l, until-within o m r ahead)
]

-- one that goes on stands below its stop
until-from : (o : Opening) (m e : ℕ) (r : Run) → r.state.events ≤ e → e < (until o m r).state.events → e < m
until-from o m e r low high = elim (cases_lt e m) [
  | inl less ↦ less
  | inr past ↦ absurd (omega (arith, high, until-by o m e r past low))
]

-- what has one more event before a stop has one before a later stop
more-later : (o : Opening) (m n : ℕ) (s : State) → m ≤ n → has_more o (At m) s ≡ true → has_more o (At n) s ≡ true
more-later o m n s l h = elim (end_cases (end_of o s)) [
  | inr over ↦ let none : false ≡ true = rw over.1 at h in absurd (true≢false (sym none))
  | inl going ↦
      let less : nat_lt s.events m ≡ true = rw going at h in
      rw going (lt-ltb s.events n (omega (arith, l, ltb-true s.events m less)))
]

-- from a run with one more event, and from one without
pub onward-more : (o : Opening) (bs : List Branch) (b e : ℕ) (r : Run) → has_more o (stop_at bs b) r.state ≡ true → onward o bs b e r ≡ r
onward-more o bs b e r h = ap (λ (t : Bool). if t then r else until o e (edited_by bs b r)) h

pub onward-less : (o : Opening) (bs : List Branch) (b e : ℕ) (r : Run) → has_more o (stop_at bs b) r.state ≡ false → onward o bs b e r ≡ until o e (edited_by bs b r)
onward-less o bs b e r h = ap (λ (t : Bool). if t then r else until o e (edited_by bs b r)) h

-- at the stop itself
along-last : (o : Opening) (bs : List Branch) (s : Stop) (e c : ℕ) (r : Run) → e ≤ o.limit → r.state.events ≤ e
    → (if nat_le (until_stop o s r).state.events e then until o e (edited_by bs c (until_stop o s r)) else until o e r)
    ≡ (if has_more o s (until_part o s e r).state then until_part o s e r else until o e (edited_by bs c (until_part o s e r)))
along-last o bs s e c r few low =
    let x = until_stop o s r in
    let y = until_part o s e r in
    let more = part-more o s e r few low in
    elim (cases_lt e x.state.events) [
      | inl before ↦
          ap (λ (t : Bool). if t then until o e (edited_by bs c x) else until o e r) (lt-leb x.state.events e before)
          ∙ sym (ap (λ (t : Bool). if t then y else until o e (edited_by bs c y)) (more ∙ lt-ltb e x.state.events before) ∙ part-before o s e r low before)
      | inr whole ↦
          ap (λ (t : Bool). if t then until o e (edited_by bs c x) else until o e r) (le-leb x.state.events e whole)
          ∙ sym (ap (λ (t : Bool). if t then y else until o e (edited_by bs c y)) (more ∙ le-ltb e x.state.events whole) ∙ ap (λ (q : Run). until o e (edited_by bs c q)) (part-whole o s e r few low whole))
    ]

part-at : (o : Opening) (s : Stop) (n e : ℕ) (r : Run) → s ≡ At n → until_part o s e r ≡ until o (min n e) r
part-at o s n e r is = ap (λ (x : Stop). until_part o x e r) is

stop-at : (o : Opening) (s : Stop) (n : ℕ) (r : Run) → s ≡ At n → until_stop o s r ≡ until o n r
stop-at o s n r is = ap (λ (x : Stop). until_stop o x r) is

-- A run along a path with one more branch is the run along the path, up to the branch's stop, and from there onward.
pub along-onward : (o : Opening) (bs : List Branch) (e n : ℕ) (xs : List ℕ) (c : ℕ) (r : Run) → stop_at bs c ≡ At n → LeaveBy bs n xs → e ≤ o.limit → r.state.events ≤ e → r.state.events ≤ n
    → full_along o bs e (xs ++ c ∷ []) r ≡ onward o bs c e (full_along o bs (min n e) xs r)
along-onward o bs e n [] c r is by few low under =
    along-last o bs (stop_at bs c) e c r few low ∙ ap (λ (q : Run). onward o bs c e q) (part-at o (stop_at bs c) n e r is)
along-onward o bs e n (d ∷ ds) c r is by few low under =
    let m = by.0.at in
    let x = until_stop o (stop_at bs d) r in
    let at : x ≡ until o m r = stop-at o (stop_at bs d) m r by.0.stop in
    let count = ap (λ (q : Run). q.state.events) at in
    let within : x.state.events ≤ n = omega (arith, count, until-by o m n r by.0.by under) in
    elim (cases_lt e x.state.events) [
      | inl before ↦
          let same : min n e ≡ e = omega (arith, before, within) in
          let y = until o e r in
          let below : e < m = until-from o m e r low (omega (arith, before, count)) in
          let left : full_along o bs e (d ∷ (ds ++ c ∷ [])) r ≡ y = ap (λ (t : Bool). if t then full_along o bs e (ds ++ c ∷ []) (edited_by bs d x) else until o e r) (lt-leb x.state.events e before) in
          let inner : full_along o bs (min n e) (d ∷ ds) r ≡ y =
          ap (λ (k : ℕ). full_along o bs k (d ∷ ds) r) same ∙ ap (λ (t : Bool). if t then full_along o bs e ds (edited_by bs d x) else until o e r) (lt-leb x.state.events e before) in
          let part : until_part o (At m) e r ≡ y = let k : min m e ≡ e = omega (arith, below) in ap (λ (k : ℕ). until o k r) k in
          let first : has_more o (At m) y.state ≡ true =
          sym (ap (λ (q : Run). has_more o (At m) q.state) part) ∙ part-more o (At m) e r few low ∙ lt-ltb e (until o m r).state.events (omega (arith, before, count)) in
          let more : has_more o (stop_at bs c) y.state ≡ true = ap (λ (s : Stop). has_more o s y.state) is ∙ more-later o m n y.state by.0.by first in
          left ∙ sym (ap (λ (q : Run). onward o bs c e q) inner ∙ onward-more o bs c e y more)
      | inr whole ↦
          let next = edited_by bs d x in
          let keeps : next.state.events ≡ x.state.events = edited-events d (branch_at bs d).edits x in
          let left : full_along o bs e (d ∷ (ds ++ c ∷ [])) r ≡ full_along o bs e (ds ++ c ∷ []) next = ap (λ (t : Bool). if t then full_along o bs e (ds ++ c ∷ []) next else until o e r) (le-leb x.state.events e whole) in
          let inner : full_along o bs (min n e) (d ∷ ds) r ≡ full_along o bs (min n e) ds next =
          ap (λ (t : Bool). if t then full_along o bs (min n e) ds next else until o (min n e) r) (le-leb x.state.events (min n e) (omega (arith, whole, within))) in
          left ∙ along-onward o bs e n ds c next is by.1 few (omega (arith, keeps, whole)) (omega (arith, keeps, within)) ∙ sym (ap (λ (q : Run). onward o bs c e q) inner)
    ]

full-onward : (o : Opening) (p : Plan) (b e n : ℕ) → IsNumbered p.branches p.limit → 0 < b → b < length p.branches → stop_at p.branches b ≡ At n → LeaveBy p.branches n (forks_of p.branches (parent_at p.branches b)) → e ≤ o.limit
    → full o p b e ≡ onward o p.branches b e (full o p (parent_at p.branches b) (min n e))
unfolding full
full-onward o p b e n h pos l is by few =
    ap (λ (xs : List ℕ). full_along o p.branches e xs (opening_run o)) (rest-more p.branches p.limit b h.tree pos l)
    ∙ along-onward o p.branches e n (forks_of p.branches (parent_at p.branches b)) b (opening_run o) is by few (omega arith) (omega arith)

-- Over the tree of a session each branch's full run goes on from its parent's up to the branch's stop.
pub run-onward : (s : SessionTold) (b e n : ℕ) → IsSession s → 0 < b → b < length s.branches → stop_at s.branches b ≡ At n → e ≤ s.course.opening.limit
    → full_in s b e ≡ onward s.course.opening s.branches b e (full_in s (parent_at s.branches b) (min n e))
run-onward s b e n h pos l is few =
    let bs = s.branches in
    let k = numbered s h in
    let same : n ≡ number_at bs b = ap (λ (x : Stop). number_of x) (sym is) in
    let less = k.tree.parents b pos l in
    full-onward s.course.opening (tree_of s) b e n k pos l is (forks-by bs s.course.opening.limit (parent_at bs b) n k (omega (arith, less, l)) (omega (arith, same, k.rises b pos l))) few

full-root : (o : Opening) (p : Plan) (e : ℕ) → full o p 0 e ≡ until o e (opening_run o)
unfolding full
full-root o p e = refl

-- the root's goes from the opening
pub run-root : (s : SessionTold) (e : ℕ) → full_in s 0 e ≡ until s.course.opening e (opening_run s.course.opening)
run-root s e = full-root s.course.opening (tree_of s) e

-- what stands before a run stays in front of what it goes on to
pub onward-behind : (o : Opening) (bs : List Branch) (b e : ℕ) (xs : List EntryTold) (r : Run) → onward o bs b e (behind xs r) ≡ behind xs (onward o bs b e r)
onward-behind o bs b e xs r = elim (has_more o (stop_at bs b) r.state) as (λ (t : Bool). (if t then behind xs r else until o e (edited_by bs b (behind xs r))) ≡ behind xs (if t then r else until o e (edited_by bs b r))) [
  | true ↦ refl
  | false ↦ ap (λ (q : Run). until o e q) (edited-behind b (branch_at bs b).edits xs r) ∙ until-behind o e xs (edited_by bs b r)
]

-- so the state needs no entries
pub onward-afresh : (o : Opening) (bs : List Branch) (b e : ℕ) (r : Run) → (onward o bs b e (afresh r.state)).state ≡ (onward o bs b e r).state
onward-afresh o bs b e r = sym (ap (λ (q : Run). q.state) (ap (λ (q : Run). onward o bs b e q) (fresh r) ∙ onward-behind o bs b e r.entries (afresh r.state)))

-- What a kernel comes to in a branch from its parent's state, and what a trace from the parent's.
pub reach-onward : (s : SessionTold) (b e n q m : ℕ) (r : Run) → IsSession s → 0 < b → b < length s.branches → stop_at s.branches b ≡ At n → e ≤ s.course.opening.limit → q ≡ parent_at s.branches b → m ≡ min e n
    → r.state ≡ (full_in s q m).state → (onward s.course.opening s.branches b e r).state ≡ (full_in s b e).state
reach-onward s b e n q m r h pos l is few parent before at =
    let o = s.course.opening in
    let bs = s.branches in
    let turn : m ≡ min n e = omega (arith, before) in
    let x = full_in s (parent_at bs b) (min n e) in
    let here : r.state ≡ x.state = at ∙ ap (λ (k : ℕ). (full_in s k m).state) parent ∙ ap (λ (k : ℕ). (full_in s (parent_at bs b) k).state) turn in
    sym (onward-afresh o bs b e r)
    ∙ ap (λ (k : State). (onward o bs b e (afresh k)).state) here
    ∙ onward-afresh o bs b e x
    ∙ sym (ap (λ (y : Run). y.state) (run-onward s b e n h pos l is few))

pub record-onward : (s : SessionTold) (b e n q m : ℕ) (pre : List EntryTold) (r : Run) → IsSession s → 0 < b → b < length s.branches → stop_at s.branches b ≡ At n → e ≤ s.course.opening.limit → q ≡ parent_at s.branches b → m ≡ min e n
    → r ≡ behind pre (full_in s q m) → onward s.course.opening s.branches b e r ≡ behind pre (full_in s b e)
record-onward s b e n q m pre r h pos l is few parent before at =
    let o = s.course.opening in
    let bs = s.branches in
    let turn : m ≡ min n e = omega (arith, before) in
    let x = full_in s (parent_at bs b) (min n e) in
    let here : r ≡ behind pre x = at ∙ ap (λ (k : ℕ). behind pre (full_in s k m)) parent ∙ ap (λ (k : ℕ). behind pre (full_in s (parent_at bs b) k)) turn in
    ap (λ (y : Run). onward o bs b e y) here ∙ onward-behind o bs b e pre x ∙ ap (λ (y : Run). behind pre y) (sym (run-onward s b e n h pos l is few))

-- the root's run from a kernel at the opening
pub root-run : (s : SessionTold) (o : Opening) (k : State) (xs : List EntryTold) (e : ℕ) → o ≡ s.course.opening → k ≡ opened o → until o e (record { state = k; entries = xs }) ≡ behind xs (full_in s 0 e)
root-run s o k xs e same is =
    let start : record { state = k; entries = xs } ≡ behind xs (opening_run o) =
    ap (λ (x : State). let r : Run = record { state = x; entries = xs } in r) is ∙ ap (λ (ys : List EntryTold). let r : Run = record { state = opened o; entries = ys } in r) (sym (append-nil xs)) in
    ap (λ (r : Run). until o e r) start ∙ until-behind o e xs (opening_run o) ∙ ap (λ (x : Opening). behind xs (until x e (opening_run x))) same
    ∙ ap (λ (r : Run). behind xs r) (sym (run-root s e))

-- a kernel with a branch's edits made, where there was no more event before the stop
pub edited-onward : (s : SessionTold) (o : Opening) (b e n : ℕ) (es : List Edit) (r y : Run) → o ≡ s.course.opening → stop_at s.branches b ≡ At n → es ≡ (branch_at s.branches b).edits → has_more o (At n) r.state ≡ false → y ≡ edited b es r
    → until o e y ≡ onward s.course.opening s.branches b e r
edited-onward s o b e n es r y same is edits less made =
    let over : has_more s.course.opening (stop_at s.branches b) r.state ≡ false = ap (λ (x : Stop). has_more s.course.opening x r.state) is ∙ sym (ap (λ (x : Opening). has_more x (At n) r.state) same) ∙ less in
    ap (λ (x : Opening). until x e y) same
    ∙ ap (λ (q : Run). until s.course.opening e q) (made ∙ ap (λ (xs : List Edit). edited b xs r) edits)
    ∙ sym (onward-less s.course.opening s.branches b e r over)

-- a kernel with one more event before the stop stays as it is
pub onward-stays : (s : SessionTold) (o : Opening) (b e n : ℕ) (r : Run) → o ≡ s.course.opening → stop_at s.branches b ≡ At n → has_more o (At n) r.state ≡ true → r ≡ onward s.course.opening s.branches b e r
onward-stays s o b e n r same is more =
    let here : has_more s.course.opening (stop_at s.branches b) r.state ≡ true = ap (λ (x : Stop). has_more s.course.opening x r.state) is ∙ sym (ap (λ (x : Opening). has_more x (At n) r.state) same) ∙ more in
    sym (onward-more s.course.opening s.branches b e r here)

-- Full runs up to more events: no fewer events, and none more where a run ended before.
along-grows : (o : Opening) (bs : List Branch) (e : ℕ) (xs : List ℕ) (r : Run) → r.state.events ≤ (full_along o bs e xs r).state.events
along-grows o bs e [] r = until-grows o e r
along-grows o bs e (c ∷ cs) r =
    let x = until_stop o (stop_at bs c) r in
    let next = edited_by bs c x in
    let down : r.state.events ≤ (full_along o bs e cs next).state.events = omega (arith, stop-grows o (stop_at bs c) r, edited-events c (branch_at bs c).edits x, along-grows o bs e cs next) in
    elim (nat_le x.state.events e) as (λ (t : Bool). let y : Run = if t then full_along o bs e cs next else until o e r in r.state.events ≤ y.state.events) [ true ↦ down | false ↦ until-grows o e r ]

until-more : (o : Opening) (e m : ℕ) (r : Run) → e ≤ m → (until o e r).state.events ≤ (until o m r).state.events
until-more o e m r l = omega (arith, until-grows o m (until o e r), ap (λ (q : Run). q.state.events) (until-until o e m r l))

until-high : (o : Opening) (e n : ℕ) (r : Run) → e ≤ n → r.state.events ≤ n → (until o e r).state.events ≤ n
until-high o e n r l low = until-by o e n r l low

along-more : (o : Opening) (bs : List Branch) (e m : ℕ) (xs : List ℕ) (r : Run) → e ≤ m → (full_along o bs e xs r).state.events ≤ (full_along o bs m xs r).state.events
along-more o bs e m [] r l = until-more o e m r l
along-more o bs e m (c ∷ cs) r l =
    let x = until_stop o (stop_at bs c) r in
    let next = edited_by bs c x in
    let grows = stop-grows o (stop_at bs c) r in
    let keeps = edited-events c (branch_at bs c).edits x in
    let at_e : (t : Bool) → nat_le x.state.events e ≡ t → full_along o bs e (c ∷ cs) r ≡ (if t then full_along o bs e cs next else until o e r) = λ t is. ap (λ (u : Bool). if u then full_along o bs e cs next else until o e r) is in
    let at_m : (t : Bool) → nat_le x.state.events m ≡ t → full_along o bs m (c ∷ cs) r ≡ (if t then full_along o bs m cs next else until o m r) = λ t is. ap (λ (u : Bool). if u then full_along o bs m cs next else until o m r) is in
    elim (cases_lt e x.state.events) [
      | inr low ↦
          let first = ap (λ (q : Run). q.state.events) (at_e true (le-leb x.state.events e low)) in
          let second = ap (λ (q : Run). q.state.events) (at_m true (le-leb x.state.events m (omega (arith, low, l)))) in
          omega (arith, first, second, along-more o bs e m cs next l)
      | inl high ↦
          let first = ap (λ (q : Run). q.state.events) (at_e false (lt-leb x.state.events e high)) in
          elim (cases_lt m x.state.events) [
            | inl past ↦ omega (arith, first, ap (λ (q : Run). q.state.events) (at_m false (lt-leb x.state.events m past)), until-more o e m r l)
            | inr low ↦
                let second = ap (λ (q : Run). q.state.events) (at_m true (le-leb x.state.events m low)) in
                omega (arith, first, second, keeps, along-grows o bs m cs next, until-high o e x.state.events r (omega (arith, high)) grows)
          ]
    ]

along-short : (o : Opening) (bs : List Branch) (e m : ℕ) (xs : List ℕ) (r : Run) → e ≤ m → (full_along o bs e xs r).state.events < e → full_along o bs m xs r ≡ full_along o bs e xs r
along-short o bs e m [] r l low = until-short o e m r l low
along-short o bs e m (c ∷ cs) r l low =
    let x = until_stop o (stop_at bs c) r in
    let next = edited_by bs c x in
    elim (cases_lt e x.state.events) [
      | inr under ↦
          let first : full_along o bs e (c ∷ cs) r ≡ full_along o bs e cs next = ap (λ (t : Bool). if t then full_along o bs e cs next else until o e r) (le-leb x.state.events e under) in
          let second : full_along o bs m (c ∷ cs) r ≡ full_along o bs m cs next = ap (λ (t : Bool). if t then full_along o bs m cs next else until o m r) (le-leb x.state.events m (omega (arith, under, l))) in
          let less : (full_along o bs e cs next).state.events < e = omega (arith, low, ap (λ (q : Run). q.state.events) first) in
          second ∙ along-short o bs e m cs next l less ∙ sym first
      | inl past ↦
          let first : full_along o bs e (c ∷ cs) r ≡ until o e r = ap (λ (t : Bool). if t then full_along o bs e cs next else until o e r) (lt-leb x.state.events e past) in
          let less : (until o e r).state.events < e = omega (arith, low, ap (λ (q : Run). q.state.events) first) in
          let at = number-at o (stop_at bs c) e r (omega (arith, less, until-grows o e r)) (omega (arith, past)) in
          absurd (omega (arith, less, at))
    ]

full-more : (o : Opening) (p : Plan) (b e m : ℕ) → e ≤ m → (full o p b e).state.events ≤ (full o p b m).state.events
unfolding full
full-more o p b e m l = along-more o p.branches e m (forks_of p.branches b) (opening_run o) l

full-short : (o : Opening) (p : Plan) (b e m : ℕ) → e ≤ m → (full o p b e).state.events < e → full o p b m ≡ full o p b e
unfolding full
full-short o p b e m l low = along-short o p.branches e m (forks_of p.branches b) (opening_run o) l low

-- Where a state that was reached for an event number, or for the limit of events, has fewer, it is the last.
pub reached-last : (s : SessionTold) (b e m : ℕ) (k : State) → m ≡ min e s.course.opening.limit → k ≡ (full_in s b m).state → k.events < e → k.events ≤ m → k.events ≡ last_event_in s b
reached-last s b e m k is at low within =
    let count = ap (λ (x : State). x.events) at in
    elim (cases_lt k.events m) [
      | inl less ↦ count ∙ sym (ap (λ (r : Run). r.state.events) (full-short s.course.opening (tree_of s) b m s.course.opening.limit (omega (arith, is)) (omega (arith, count, less))))
      | inr all ↦
          let whole : m ≡ s.course.opening.limit = omega (arith, is, low, within, all) in
          count ∙ ap (λ (n : ℕ). (full_in s b n).state.events) whole
    ]

-- and where it has no fewer, that event is one of the run's
pub reached-event : (s : SessionTold) (b e m : ℕ) (k : State) → m ≡ min e s.course.opening.limit → k ≡ (full_in s b m).state → e ≤ k.events → k.events ≤ m → (m ≡ e) × (e ≤ last_event_in s b)
reached-event s b e m k is at high within =
    let count = ap (λ (x : State). x.events) at in
    (omega (arith, is, high, within), omega (arith, high, count, full-more s.course.opening (tree_of s) b m s.course.opening.limit (omega (arith, is))))
