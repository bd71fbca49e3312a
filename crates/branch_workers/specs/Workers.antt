-- What holds of workers.
use Rattle.std.specs.Prelude.{◌≡◌, ℕ, ◌<◌, ◌≤◌, ◌^◌, Bool, true, All, List, [], ◌∷◌, Some, length, map, sum_by, slice_get}
use Rattle.branch_tree.specs.Segments.{segments_in, segment_at, last_of}
use Rattle.shelf_core.specs.Plan.{is_in, is_sole}
use Rattle.shelf_core.specs.Possible.{word_at}
use Rattle.shelf_core.specs.Views.{times}
use Rattle.shelf_core.specs.Words.{is_ready}
use Rattle.shelf_core.specs.declared.plan.ShelfPlan.{ShelfPlan}
use Rattle.shelf_core.specs.declared.seat.SeatView.{SeatView}
use Rattle.shelf_core.specs.declared.system.System.{System}
use Rattle.shelf_core.specs.declared.words.ClaimWord.TheVariants.{Taken}
use Rattle.checkpoint_shelf.specs.Told.{ShelfTold, SeatTold}
use Rattle.checkpoint_shelf.specs.Seats.{AllBack}
use Rattle.kernel_copy.specs.declared.kept.Keep.{Keep}
use Rattle.kernel_copy.specs.declared.run.Outcome.{Outcome}
use Rattle.kernel_copy.specs.Segmentwise.{own_count}
use Rattle.kernel_copy.specs.Courses.{CourseTold, IsCourse}
use Rattle.kernel_copy.specs.Outcomes.{outcome_told, outcome_of}
use Rattle.branch_workers.specs.Layout.{end_key, key_at}
use Rattle.branch_workers.specs.Claims.{AreClaims, HasPushed}
use Rattle.branch_workers.specs.Runs.{IsPassed, HasAllStates}

-- numbers that rise by one from 0
abbrev pub AreNumbered : List ℕ → Type 0
AreNumbered numbers = (i n : ℕ) → slice_get numbers i ≡ Some n → n ≡ i

-- how many events a segment has of its own
abbrev pub own_of : CourseTold → ℕ → ℕ
own_of c s = own_count c.opening c.plan (segment_at c.plan s)

-- Between two segments: the worker's seat is of this shelf and has its own number alone and no turn, and each segment that it
-- claimed was run by it, counted and told as this is to be kept of it.
pub record IsAtWork (c : CourseTold) (keep : Keep) (shelf : ShelfTold CourseTold) (number : ℕ) (seat : SeatTold CourseTold) (steps : ℕ)
    (outcomes : List Outcome) (pushed : List ℕ) : Type 0 where
  pub course : IsCourse c
  pub of : seat.shelf ≡ Some shelf
  pub numbers : seat.view.numbers ≡ number ∷ []
  pub turns : seat.view.turns ≡ []
  pub claims : AreClaims c.plan seat.view.claims
  pub counts : seat.view.counts ≡ length seat.view.claims
  pub states : HasAllStates c shelf.plan seat.view
  pub segments : map (λ o. o.segment) outcomes ≡ seat.view.claims
  pub told : All (λ o. outcome_told o ≡ outcome_of c keep o.segment) outcomes
  pub counted : steps ≡ sum_by (own_of c) seat.view.claims
  pub lane : HasPushed c.plan seat.view.claims pushed

-- When a worker ended, in want of memory too.
pub record HasEnded (c : CourseTold) (shelf : ShelfTold CourseTold) (number : ℕ) (seat : SeatTold CourseTold) (steps : ℕ) : Type 0 where
  pub of : seat.shelf ≡ Some shelf
  pub numbers : seat.view.numbers ≡ number ∷ []
  pub turns : seat.view.turns ≡ []
  pub counted : steps ≤ sum_by (own_of c) seat.view.claims
  pub few : steps < 2 ^ 52

-- When a worker on a shelf of this plan, with this view and these outcomes, of which this is kept, ended since all segments
-- are done.
pub record HasFinished (c : CourseTold) (keep : Keep) (plan : ShelfPlan) (view : SeatView) (outcomes : List Outcome) : Type 0 where
  pub below : All (λ s. s < length (segments_in c.plan)) view.claims
  pub states : HasAllStates c plan view
  pub segments : map (λ o. o.segment) outcomes ≡ view.claims
  pub told : All (λ o. outcome_told o ≡ outcome_of c keep o.segment) outcomes
  pub done : length (segments_in c.plan) ≤ view.done_seen

-- so of all workers, with their seats and their outcomes in order
abbrev pub HaveFinished : CourseTold → Keep → ShelfPlan → List (SeatTold CourseTold) → List (List Outcome) → Type 0
HaveFinished c keep plan [] [] = Unit {0}
HaveFinished c keep plan [] (os ∷ lists) = ⊥
HaveFinished c keep plan (seat ∷ seats) [] = ⊥
HaveFinished c keep plan (seat ∷ seats) (os ∷ lists) = HasFinished c keep plan seat.view os × HaveFinished c keep plan seats lists

-- What workers on this shelf handed back: their seats, the outcomes of each, whether all finished, and how many steps they counted.
pub record IsHandedBack (c : CourseTold) (keep : Keep) (shelf : ShelfTold CourseTold) (seats : List (SeatTold CourseTold)) (lists : List (List Outcome))
    (all : Bool) (steps : ℕ) : Type 0 where
  pub back : AllBack shelf seats
  pub finished : all ≡ true → HaveFinished c keep shelf.plan seats lists
  pub counted : all ≡ true → steps ≡ sum_by (λ (s : SeatTold CourseTold). sum_by (own_of c) s.view.claims) seats
  pub most : steps ≤ sum_by (λ (s : SeatTold CourseTold). sum_by (own_of c) s.view.claims) seats

-- A closed system of this plan in which so many workers ran each segment once, and nothing else: the segment's word names
-- one of them, and the view that took in all of theirs has it once among its claims with the states that its run found and
-- left; each of those claims is of one of the plan's segments. Each fork's place has its value, and so has the place of each
-- grid key whose number the segment passed and which has its place alone; where there are as many places for the grid as
-- keys, each of them has.
pub record RanOnce (c : CourseTold) (plan : ShelfPlan) (workers : ℕ) (s : System) : Type 0 where
  pub laid : s.plan ≡ Some plan
  pub view : SeatView
  pub there : slice_get s.views 0 ≡ Some view
  pub below : All (λ g. g < length (segments_in c.plan)) view.claims
  pub claimed : (g : ℕ) → g < length (segments_in c.plan) → times g view.claims ≡ 1
  pub takers : (g : ℕ) → g < length (segments_in c.plan) → (n : ℕ) × (slice_get s.claims g ≡ Some (Taken n)) × (n < workers)
  pub states : HasAllStates c plan view
  pub forks : (g : ℕ) → g < length (segments_in c.plan) → g < last_of c.plan.branches (segment_at c.plan g).branch → is_ready (end_key c.plan g) (word_at s (end_key c.plan g)) ≡ true
  pub grid : (g e : ℕ) → is_in (key_at g e) plan.grid ≡ true → is_sole plan (key_at g e) ≡ true → IsPassed c g e → is_ready (key_at g e) (word_at s (key_at g e)) ≡ true
  pub alone : length plan.grid ≤ plan.places → (g e : ℕ) → is_in (key_at g e) plan.grid ≡ true → is_sole plan (key_at g e) ≡ true
