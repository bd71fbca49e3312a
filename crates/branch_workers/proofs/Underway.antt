-- Runs of segments that stop on their way.
use Rattle.std.proofs.Common.{◌≡◌, ℕ, ◌%◌, ◌<◌, ◌≤◌, ◌⊎◌, true, List, inl, inr, length, sym, ap, ◌∙◌, subst, arith}
use Rattle.std.proofs.lemmas.Bool.{cases_lt, cases_order}
use Rattle.branch_tree.specs.Segments.{segments_in, segment_at}
use Rattle.branch_tree.specs.Stops.{IsWithin}
use Rattle.kernel_core.specs.Step.{Fits}
use Rattle.kernel_core.specs.State.{State}
use Rattle.kernel_core.specs.Until.{Run}
use Rattle.kernel_copy.specs.Courses.{CourseTold, IsCourse, IsKeyOf, StandsAt, state_at}
use Rattle.kernel_copy.specs.Ran.{RanTold, ran_as, ran_with}
use Rattle.kernel_copy.specs.Segmentwise.{afresh, segment_end, segment_run, started_at, from_count}
use Rattle.kernel_copy.specs.UntilStop.{until_part}
use Rattle.kernel_copy.specs.declared.kept.Keep.{Keep}
use Rattle.kernel_copy.proofs.Afters.{after-full}
use Rattle.kernel_copy.proofs.Halts.{stop-grows, part-on, part-stop}
use Rattle.kernel_copy.proofs.Pieces.{goes_on_kept}
use Rattle.kernel_copy.proofs.Trees.{course-tree}
use Rattle.kernel_copy.proofs.Walks.{segment-after, segment-copy, segment-grows, own-is, segment-within, planned-at}
use Rattle.shelf_core.specs.Plan.{is_in, is_sole}
use Rattle.shelf_core.specs.declared.plan.Key.{Key}
use Rattle.shelf_core.specs.declared.plan.ShelfPlan.{ShelfPlan}
use Rattle.shelf_core.specs.declared.seat.SeatView.{SeatView}
use Rattle.branch_workers.specs.Layout.{key_at, start_number, stop_number, grid_keys}
use Rattle.branch_workers.specs.Runs.{IsPassed, IsUnderway}
use Rattle.branch_workers.proofs.Grids.{IsGridKey, grid_key}
use Rattle.branch_workers.proofs.Layouts.{stop_few}
use Rattle.branch_workers.proofs.Parts.{part_few, part_number, part_there}
use Rattle.branch_workers.proofs.Starts.{start_few}

-- a segment's run at its beginning
abbrev started_first : CourseTold → ℕ → Run
started_first c s = started_at c.opening c.plan (segment_at c.plan s)

pub begins : (c : CourseTold) (keep : Keep) (s : ℕ) (x : RanTold) (r : Run) → x ≡ ran_as keep r → r ≡ started_at c.opening c.plan (segment_at c.plan s) → Fits c.opening r.state → IsUnderway c keep s 0 x
begins c keep s x r kept is fits = record {
  run = r;
  is = kept;
  again = λ m l. ap (λ (q : Run). until_part c.opening (segment_at c.plan s).stop m q) is;
  few = (let same = ap (λ (q : Run). q.state.events) is in let grows = stop-grows c.opening (segment_at c.plan s).stop (started_first c s) in omega arith);
  fits = fits;
}

pub goes_later : (c : CourseTold) (keep : Keep) (s e m : ℕ) (x : RanTold) → e ≤ m → IsUnderway c keep s e x → IsUnderway c keep s m x
goes_later c keep s e m x l h = record { run = h.run; is = h.is; again = λ n k. h.again n (omega arith); few = h.few; fits = h.fits }

-- the state of a run that is under way
pub underway_state : (c : CourseTold) (keep : Keep) (s e : ℕ) (x : RanTold) (h : IsUnderway c keep s e x) → x.state ≡ h.run.state
underway_state c keep s e x h = ap (λ (y : RanTold). y.state) h.is

pub underway_fits : (c : CourseTold) (keep : Keep) (s e : ℕ) (x : RanTold) → IsUnderway c keep s e x → Fits c.opening x.state
underway_fits c keep s e x h = subst (λ (k : State). Fits c.opening k) (sym (underway_state c keep s e x h)) h.fits

-- It goes on to the segment's stop, and to so many events at most.
module _ (c : CourseTold) (keep : Keep) (s e : ℕ) (x y : RanTold) (within : IsWithin c.opening.limit (segment_at c.plan s).stop) (l : e ≤ c.opening.limit) (h : IsUnderway c keep s e x) where
  -- from what is kept, as from the run that it is
  goes : ran_with x (until_part c.opening (segment_at c.plan s).stop e (afresh x.state)) ≡ ran_as keep (until_part c.opening (segment_at c.plan s).stop e h.run)
  goes = ap (λ (z : RanTold). ran_with z (until_part c.opening (segment_at c.plan s).stop e (afresh z.state))) h.is ∙ goes_on_kept keep c.opening (segment_at c.plan s).stop e h.run

  goes_state : (until_part c.opening (segment_at c.plan s).stop e (afresh x.state)).state ≡ (until_part c.opening (segment_at c.plan s).stop e h.run).state
  goes_state = ap (λ (z : RanTold). z.state) goes

  -- no more events than the segment's
  goes_most : (until_part c.opening (segment_at c.plan s).stop e h.run).state.events ≤ (segment_run c.opening c.plan (segment_at c.plan s)).state.events
  goes_most =
      let same = ap (λ (r : Run). r.state.events) (h.again e (omega arith)) in
      let most = part_few c.opening (segment_at c.plan s).stop e (started_first c s) within l in omega arith

  pub goes_few : (n : ℕ) → n ≤ (until_part c.opening (segment_at c.plan s).stop e (afresh x.state)).state.events → n ≤ (segment_run c.opening c.plan (segment_at c.plan s)).state.events
  goes_few n few = let same = ap (λ (k : State). k.events) goes_state in let most = goes_most in omega arith

  pub goes_to : y ≡ ran_with x (until_part c.opening (segment_at c.plan s).stop e (afresh x.state))
      → y ≡ ran_as keep (until_part c.opening (segment_at c.plan s).stop e (started_at c.opening c.plan (segment_at c.plan s)))
  goes_to is = is ∙ goes ∙ ap (λ (r : Run). ran_as keep r) (h.again e (omega arith))

  pub goes_on : y ≡ ran_with x (until_part c.opening (segment_at c.plan s).stop e (afresh x.state)) → Fits c.opening y.state → IsUnderway c keep s e y
  goes_on is fits = record {
    run = until_part c.opening (segment_at c.plan s).stop e h.run;
    is = is ∙ goes;
    again = λ m k. part-on c.opening (segment_at c.plan s).stop e m h.run k ∙ h.again m k;
    few = goes_most;
    fits = subst (λ (k : State). Fits c.opening k) (ap (λ (z : RanTold). z.state) (is ∙ goes)) fits;
  }

module _ (c : CourseTold) (s : ℕ) (h : IsCourse c) (l : s < length (segments_in c.plan)) where
  -- a segment's run begins with the events before its own
  pub first_events : (started_at c.opening c.plan (segment_at c.plan s)).state.events ≡ from_count c.opening c.plan (segment_at c.plan s)
  first_events =
      let own = own-is c.opening c.plan s (course-tree c h) h.limit l in
      let grows = segment-grows c.opening c.plan s (course-tree c h) h.limit l in
      let same = ap (λ (q : Run). q.state.events) (segment-copy c.opening c.plan s (course-tree c h) h.limit l) in omega arith

  -- its run has no more events than the limit
  pub run_within : (segment_run c.opening c.plan (segment_at c.plan s)).state.events ≤ c.opening.limit
  run_within =
      let within = segment-within c.opening c.plan s (course-tree c h) h.limit l in
      let copy = ap (λ (q : Run). q.state.events) (segment-copy c.opening c.plan s (course-tree c h) h.limit l) in omega arith

  -- so it begins with no more
  pub begins_within : from_count c.opening c.plan (segment_at c.plan s) ≤ c.opening.limit
  begins_within = let first = first_events in let run = run_within in let grows = stop-grows c.opening (segment_at c.plan s).stop (started_first c s) in omega arith

  -- its stop is within the limit
  pub stop_within : IsWithin c.opening.limit (segment_at c.plan s).stop
  stop_within = subst (λ (n : ℕ). IsWithin n (segment_at c.plan s).stop) h.limit (planned-at c.plan s (course-tree c h) l).within

  -- and so are the numbers between which its grid lies
  pub grid_from : start_number (segment_at c.plan s).start ≤ c.opening.limit
  grid_from = let few = start_few c.plan s (course-tree c h) l in let same = h.limit in omega arith

  pub grid_to : stop_number c.opening.limit (segment_at c.plan s).stop ≤ c.opening.limit
  grid_to = stop_few c.opening.limit (segment_at c.plan s).stop stop_within

  -- Where a run of the segment stands at an event number that it passed, that is the number of one of the segment's states, and
  -- the run has the course's state at its key.
  module _ (e : ℕ) (from : from_count c.opening c.plan (segment_at c.plan s) < e) (to : e ≤ c.opening.limit) where
    stands_to : (until_part c.opening (segment_at c.plan s).stop e (started_first c s)).state.events ≡ e → e ≤ (segment_end c.opening c.plan (segment_at c.plan s)).state.events
    stands_to events =
        let few = part_few c.opening (segment_at c.plan s).stop e (started_first c s) stop_within to in
        let copy = ap (λ (q : Run). q.state.events) (segment-copy c.opening c.plan s (course-tree c h) h.limit l) in omega arith

    here : (keep : Keep) (x : RanTold) → x ≡ ran_as keep (until_part c.opening (segment_at c.plan s).stop e (started_at c.opening c.plan (segment_at c.plan s))) → x.state.events ≡ e
        → (until_part c.opening (segment_at c.plan s).stop e (started_first c s)).state.events ≡ e
    here keep x is events = sym (ap (λ (y : RanTold). y.state.events) is) ∙ events

    pub number_is_key : (keep : Keep) (x : RanTold) → x ≡ ran_as keep (until_part c.opening (segment_at c.plan s).stop e (started_at c.opening c.plan (segment_at c.plan s))) → x.state.events ≡ e
        → IsKeyOf c (key_at s e)
    number_is_key keep x is events =
        let stands : StandsAt c.opening c.plan (segment_at c.plan s) e = record { from = omega arith; to = stands_to (here keep x is events) } in
        record { segment = l; event = inr (inl stands) }

    pub state_there : (keep : Keep) (x : RanTold) → x ≡ ran_as keep (until_part c.opening (segment_at c.plan s).stop e (started_at c.opening c.plan (segment_at c.plan s))) → x.state.events ≡ e
        → x.state ≡ state_at c (key_at s e)
    state_there keep x is events =
        let run = here keep x is events in
        let few : c.opening.limit < 16777215 = (let most = h.opening.limit in omega arith) in
        ap (λ (y : RanTold). y.state) is
        ∙ ap (λ (q : Run). q.state) (part_number c.opening (segment_at c.plan s).stop e (started_first c s) run)
        ∙ sym (ap (λ (q : Run). q.state) (segment-after c.opening c.plan s e (course-tree c h) h.limit l (omega arith)))
        ∙ sym (after-full c.opening c.plan s e (course-tree c h) h.limit few l (omega arith) (stands_to run))

  -- Where the segment passes an event number, so many events stand there.
  pub passed_events : (keep : Keep) (e : ℕ) (x : RanTold) → x ≡ ran_as keep (until_part c.opening (segment_at c.plan s).stop e (started_at c.opening c.plan (segment_at c.plan s))) → IsPassed c s e → x.state.events ≡ e
  passed_events keep e x is passed =
      let begin = passed.begins in
      let reaches = passed.reaches in
      let first = first_events in
      let copy = ap (λ (q : Run). q.state.events) (segment-copy c.opening c.plan s (course-tree c h) h.limit l) in
      ap (λ (y : RanTold). y.state.events) is ∙ part_there c.opening (segment_at c.plan s).stop e (started_first c s) (omega arith) (omega arith)

  -- A run of the segment to its stop, and to the limit of events at most, is the segment's own.
  pub runs_whole : until_part c.opening (segment_at c.plan s).stop c.opening.limit (started_at c.opening c.plan (segment_at c.plan s)) ≡ segment_run c.opening c.plan (segment_at c.plan s)
  runs_whole = part-stop c.opening (segment_at c.plan s).stop (started_first c s) stop_within

-- a key of the shelf's grid is one of the plan's
grid_at : (c : CourseTold) (plan : ShelfPlan) (stride s e : ℕ) → plan.grid ≡ grid_keys c.plan stride → is_in (key_at s e) plan.grid ≡ true → IsGridKey c.plan stride (key_at s e)
grid_at c plan stride s e grid there = grid_key c.plan stride (key_at s e) (ap (λ (keys : List Key). is_in (key_at s e) keys) (sym grid) ∙ there)

-- What a seat knows of the grid of a segment before an event number: the state at each number that the run passed and that has a
-- place of its own.
abbrev pub KnowsBefore : CourseTold → ShelfPlan → ℕ → ℕ → SeatView → Type 0
KnowsBefore c plan s n v = (e : ℕ) → is_in (key_at s e) plan.grid ≡ true → e < n → is_sole plan (key_at s e) ≡ true → IsPassed c s e → is_in (key_at s e) v.known ≡ true

module _ (c : CourseTold) (plan : ShelfPlan) (stride s n : ℕ) (v : SeatView) (grid : plan.grid ≡ grid_keys c.plan stride) where
  -- None is up to the number above which the grid lies, nor up to the events with which the run began: so none is before the
  -- first multiple above both.
  pub knows_none : (a : ℕ) → (a ≤ start_number (segment_at c.plan s).start) ⊎ (a ≤ from_count c.opening c.plan (segment_at c.plan s))
      → ((e : ℕ) → a < e → e < n → e % stride ≡ 0 → ⊥) → KnowsBefore c plan s n v
  knows_none a low none e there below sole passed = elim (cases_lt a e) [
    | inl above ↦ absurd (none e above below (grid_at c plan stride s e grid there).divides)
    | inr within ↦ by low within
  ]
    where
      by : (a ≤ start_number (segment_at c.plan s).start) ⊎ (a ≤ from_count c.opening c.plan (segment_at c.plan s)) → e ≤ a → is_in (key_at s e) v.known ≡ true
      by (inl l) within = let from = (grid_at c plan stride s e grid there).from in absurd (omega arith)
      by (inr l) within = let from = passed.begins in absurd (omega arith)

  -- once the number itself is passed none is left before the next multiple
  pub knows_more : (b : ℕ) (w : SeatView) → ((e : ℕ) → n < e → e < b → e % stride ≡ 0 → ⊥) → KnowsBefore c plan s n v → ((key : Key) → is_in key v.known ≡ true → is_in key w.known ≡ true)
      → (is_sole plan (key_at s n) ≡ true → IsPassed c s n → is_in (key_at s n) w.known ≡ true) → KnowsBefore c plan s b w
  knows_more b w none h keeps here e there below sole passed = elim (cases_order e n) [
    | inl one ↦ subst (λ (m : ℕ). is_sole plan (key_at s m) ≡ true → IsPassed c s m → is_in (key_at s m) w.known ≡ true) (sym one) here sole passed
    | inr other ↦ elim other [
      | inl less ↦ keeps (key_at s e) (h e there less sole passed)
      | inr more ↦ absurd (none e more below (grid_at c plan stride s e grid there).divides)
    ]
  ]

  -- none is left where the run ended before it
  pub knows_ended : (w : SeatView) → from_count c.opening c.plan (segment_at c.plan s) < n → KnowsBefore c plan s n v → ((key : Key) → is_in key v.known ≡ true → is_in key w.known ≡ true)
      → (IsPassed c s n → ⊥) → (e : ℕ) → is_in (key_at s e) plan.grid ≡ true → is_sole plan (key_at s e) ≡ true → IsPassed c s e → is_in (key_at s e) w.known ≡ true
  knows_ended w above h keeps ended e there sole passed = elim (cases_lt e n) [
    | inl less ↦ keeps (key_at s e) (h e there less sole passed)
    | inr past ↦ absurd (ended (record { begins = above; reaches = (let reaches = passed.reaches in omega arith) }))
  ]

  pub knows_all : stop_number c.plan.limit (segment_at c.plan s).stop ≤ n → KnowsBefore c plan s n v
      → (e : ℕ) → is_in (key_at s e) plan.grid ≡ true → is_sole plan (key_at s e) ≡ true → IsPassed c s e → is_in (key_at s e) v.known ≡ true
  knows_all all h e there sole passed = let below = (grid_at c plan stride s e grid there).below in h e there (omega arith) sole passed
