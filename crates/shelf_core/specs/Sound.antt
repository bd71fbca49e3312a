use Rattle.std.specs.Prelude.{◌≡◌, ℕ, ◌<◌, ◌≤◌, ◌==◌, ◌&&◌, Bool, true, List, Option, Some, None, slice_get, length, map, nat_lt, if◌then◌else◌}
use Rattle.shelf_core.specs.Plan.{same_key, is_in, place_in, sole_in}
use Rattle.shelf_core.specs.Words.{is_held, value_under}
use Rattle.shelf_core.specs.Views.{times, turns_at, has_turn, total}
use Rattle.shelf_core.specs.Possible.{word_in}
use Rattle.shelf_core.specs.declared.plan.Key.{Key}
use Rattle.shelf_core.specs.declared.plan.ShelfPlan.{ShelfPlan}
use Rattle.shelf_core.specs.declared.words.ClaimWord.{ClaimWord}
use Rattle.shelf_core.specs.declared.words.ClaimWord.TheVariants.{Open, Taken}
use Rattle.shelf_core.specs.declared.words.PlaceWord.{PlaceWord}
use Rattle.shelf_core.specs.declared.words.PlaceWord.TheVariants.{Free, Writing, Ready, Lent}
use Rattle.shelf_core.specs.declared.seat.SeatView.{SeatView}
use Rattle.shelf_core.specs.declared.system.System.{System}

-- A fact of each seat's number and view.
abbrev pub ForViews : List SeatView → (ℕ → SeatView → Type 0) → Type 0
ForViews views Fact = (n : ℕ) (view : SeatView) → slice_get views n ≡ Some view → Fact n view

-- How often a number stands in a view, where the view isn't spent.
abbrev pub standing : ℕ → SeatView → ℕ
standing n view = if view.spent then 0 else times n view.numbers

-- 1. The seat numbers that were given are those below the number of views. Each of them stands once in the numbers
-- of one view that isn't spent, and no other number stands in such a view.
abbrev pub NumbersStand : List SeatView → Type 0
NumbersStand views = (n : ℕ) → total (standing n) views ≡ (if nat_lt n (length views) then 1 else 0)

-- How often a segment with this word stands in the claims of a view with these numbers: once where the view has
-- the number that the word names, and else not at all.
abbrev pub claimed_by : ClaimWord → List ℕ → ℕ
claimed_by Open numbers = 0
claimed_by (Taken n) numbers = times n numbers

-- The seat that a segment's word names is there.
abbrev pub TakerStands : ℕ → ClaimWord → Type 0
TakerStands seats Open = Unit {0}
TakerStands seats (Taken n) = n < seats

-- 2. A segment's word is Open and the segment stands in no claims, or it is Taken(n) and the segment stands once in
-- the claims of the view that has n, and in no other.
pub record ClaimsStand (claims : List ClaimWord) (views : List SeatView) : Type 0 where
  pub claimed : (segment : ℕ) (word : ClaimWord) → slice_get claims segment ≡ Some word →
      ForViews views (λ n view. times segment view.claims ≡ claimed_by word view.numbers)
  pub takers : (segment : ℕ) (word : ClaimWord) → slice_get claims segment ≡ Some word →
      TakerStands (length views) word

-- How many turns a view with these numbers has at a place with this word: one where it has the number under Writing.
abbrev pub turned_by : PlaceWord → List ℕ → ℕ
turned_by Free numbers = 0
turned_by (Writing n) numbers = times n numbers
turned_by (Ready key) numbers = 0
turned_by (Lent key n) numbers = 0

-- How many loans of a key a view with these numbers has from a place with this word: one where it has the number
-- under Lent, of the key that the word names.
abbrev pub lent_by : PlaceWord → Key → List ℕ → ℕ
lent_by Free key numbers = 0
lent_by (Writing n) key numbers = 0
lent_by (Ready k) key numbers = 0
lent_by (Lent k n) key numbers = if same_key k key then times n numbers else 0

-- How many loans of a key from a place these are.
abbrev pub loans_at : ℕ → Key → Option (ℕ × Key) → ℕ
loans_at place key None = 0
loans_at place key (Some loan) = if (loan.0 == place) && same_key loan.1 key then 1 else 0

-- The key under a place's word belongs to the place, and the seat that the word names is there.
abbrev pub WordBelongs : Option ShelfPlan → ℕ → ℕ → PlaceWord → Type 0
WordBelongs plan seats place Free = Unit {0}
WordBelongs plan seats place (Writing n) = n < seats
WordBelongs plan seats place (Ready key) = place_in plan key ≡ Some place
WordBelongs plan seats place (Lent key n) = (place_in plan key ≡ Some place) × (n < seats)

-- 3. A place that is Free has no value. Under Writing(n) it has no value at home, and the view that has n has one
-- turn there. Under Ready(k), k belongs to this place and the home value has key k. Under Lent(k, n), k belongs to
-- this place, the home value is gone, and the view that has n has the loan of a value of key k at this place. No view
-- has any other turn or loan. The key of each turn belongs to the turn's place, and its segment stands in the claims
-- of the same view; the key of each loan belongs to the loan's place.
pub record PlacesStand (plan : Option ShelfPlan) (places : List PlaceWord) (home : List (Option Key))
    (views : List SeatView) : Type 0 where
  pub values : home ≡ map value_under places
  pub words : (place : ℕ) (word : PlaceWord) → slice_get places place ≡ Some word →
      WordBelongs plan (length views) place word
  pub turns : (place : ℕ) (word : PlaceWord) → slice_get places place ≡ Some word →
      ForViews views (λ n view. turns_at place view.turns ≡ turned_by word view.numbers)
  pub loans : (place : ℕ) (word : PlaceWord) (key : Key) → slice_get places place ≡ Some word →
      ForViews views (λ n view. loans_at place key view.loan ≡ lent_by word key view.numbers)
  pub turn_keys : ForViews views (λ n view. (i : ℕ) (turn : ℕ × Key) → slice_get view.turns i ≡ Some turn →
      (place_in plan turn.1 ≡ Some turn.0) × (0 < times turn.1.segment view.claims))
  pub loan_keys : ForViews views (λ n view. (loan : ℕ × Key) → view.loan ≡ Some loan →
      place_in plan loan.1 ≡ Some loan.0)

-- 4. The done number is the sum of all counts, and each view's counts is at most the number of its claims.
pub record CountsStand (done : ℕ) (views : List SeatView) : Type 0 where
  pub sum : done ≡ total (λ view. view.counts) views
  pub within : ForViews views (λ n view. view.counts ≤ length view.claims)

-- 5. Where a view has `stopped`, the stop bit is set. No view's `done_seen` is above the done number.
pub record SeenStands (done : ℕ) (stopped : Bool) (views : List SeatView) : Type 0 where
  pub bit : ForViews views (λ n view. view.stopped ≡ true → stopped ≡ true)
  pub number : ForViews views (λ n view. view.done_seen ≤ done)

-- 6. Each key in some view's `known` is a sole key, and its place is Ready or Lent of it.
pub record IsKept (plan : Option ShelfPlan) (places : List PlaceWord) (key : Key) : Type 0 where
  pub sole : sole_in plan key ≡ true
  pub there : is_held key (word_in places (place_in plan key)) ≡ true

abbrev pub KnownStands : Option ShelfPlan → List PlaceWord → List SeatView → Type 0
KnownStands plan places views =
    ForViews views (λ n view. (key : Key) → is_in key view.known ≡ true → IsKept plan places key)

-- 7. Where the segment of a sole key is among a view's claims and the word of the key's place is Writing(m), that
-- view has m and has the turn of the key.
abbrev pub WritersStand : Option ShelfPlan → List PlaceWord → List SeatView → Type 0
WritersStand plan places views = ForViews views (λ n view. (key : Key) (m : ℕ) →
    sole_in plan key ≡ true → 0 < times key.segment view.claims →
    word_in places (place_in plan key) ≡ Some (Writing m) →
    (times m view.numbers ≡ 1) × (has_turn key view.turns ≡ true))

pub record Sound (s : System) : Type 0 where
  pub numbers : NumbersStand s.views
  pub claims : ClaimsStand s.claims s.views
  pub places : PlacesStand s.plan s.places s.home s.views
  pub counts : CountsStand s.done s.views
  pub seen : SeenStands s.done s.stopped s.views
  pub known : KnownStands s.plan s.places s.views
  pub writers : WritersStand s.plan s.places s.views
