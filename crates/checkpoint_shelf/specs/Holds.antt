-- What the table is at any moment: an orderly system, with a value under each word that says so.
use Rattle.std.specs.Prelude.{◌≡◌, ℕ, ◌+◌, ◌<◌, ◌≤◌, ◌==◌, true, false, List, ◌∷◌, length, map, Option, Some, None, slice_get}
use mathlib.Core.Option as plain
use mathlib.Core.Option.{some, none}
use lib.ListN.{get_elem?}
use Rattle.atomic_table.specs.Table.{State, Me}
use Rattle.std.specs.declared.sync.Arc.{Arc}
use Rattle.shelf_core.specs.Plan.{place_of}
use Rattle.shelf_core.specs.Views.{new_view, spent_view, times, turns_at, live_count}
use Rattle.shelf_core.specs.After.{joined_with}
use Rattle.shelf_core.specs.Orderly.{Orderly}
use Rattle.shelf_core.specs.declared.plan.Key.{Key}
use Rattle.shelf_core.specs.declared.words.PlaceWord.{PlaceWord}
use Rattle.shelf_core.specs.declared.words.PlaceWord.TheVariants.{Free, Writing, Ready, Lent}
use Rattle.shelf_core.specs.declared.seat.SeatView.{SeatView}
use Rattle.shelf_core.specs.declared.system.System.{System}
use Rattle.checkpoint_shelf.specs.declared.about.About.{About}
use Rattle.checkpoint_shelf.specs.declared.about.View.{View}
use Rattle.checkpoint_shelf.specs.Codes.{words_of}
use Rattle.checkpoint_shelf.specs.Plans.{PlanFits, SeatsFit}
use Rattle.checkpoint_shelf.specs.Fronts.{held}

module _ {C Co : Type 0} where
  pub record AboutFits (k : About C Co) : Type 0 where
    pub plan : PlanFits k.plan
    pub seats : SeatsFit k.seats

  -- The view with another view of the core.
  abbrev pub seeing : View C Co → SeatView → View C Co
  seeing v w = record v { seen = w }

  -- The first seat's view when the shelf is laid, and when it made a seat; and that new seat's.
  abbrev pub leader : About C Co → View C Co
  leader k = record { seen = new_view 0; about = Some k; leads = true; made = 1; met = 0 }

  abbrev pub leads_on : View C Co → View C Co
  leads_on v = record v { made = v.made + 1 }

  abbrev pub newcomer : View C Co → View C Co
  newcomer v = record { seen = new_view v.made; about = v.about; leads = false; made = 0; met = 0 }

  -- The first seat's view when so many seats are made.
  abbrev pub led : About C Co → ℕ → View C Co
  led k n = record { seen = new_view 0; about = Some k; leads = true; made = n; met = 0 }

  -- The view of a seat that was made as the n-th.
  abbrev pub follower : About C Co → ℕ → View C Co
  follower k n = record { seen = new_view n; about = Some k; leads = false; made = 0; met = 0 }

  -- The first seat's view when it took in another, and what is left of that.
  abbrev pub both : View C Co → View C Co → View C Co
  both v w = record v { seen = joined_with w.seen v.seen; met = v.met + 1 }

  abbrev pub nobody : View C Co
  nobody = record { seen = spent_view; about = None; leads = false; made = 0; met = 0 }

-- What the view of the seat i knows, where so many seats stand and so many of them aren't spent.
pub record Knows {C Co : Type 0} (k : About C Co) (seats live i : ℕ) (v : View C Co) : Type 0 where
  pub about : v.seen.spent ≡ false → v.about ≡ Some k
  pub leads : v.leads ≡ true → (i ≡ 0) × (v.seen.spent ≡ false) × (v.made ≡ seats) × (v.met + live ≡ seats)

module _ {C Co Z : Type 0} (key_of : C → Key) (course_of : C → Co) where
  -- What the slot of a place with this word has: none where a seat has the slot.
  abbrev pub Stands : Co → PlaceWord → plain.Option (plain.Option (Option (Arc C Z))) → Type 0
  Stands co Free slot = slot ≡ some (some None)
  Stands co (Writing n) slot = slot ≡ some none
  Stands co (Ready key) slot = (a : Arc C Z) × (slot ≡ some (some (Some a))) × (key_of a.value ≡ key) × (course_of a.value ≡ co)
  Stands co (Lent key n) slot = slot ≡ some none

  pub record Holds (k : About C Co) (t : State (Option (Arc C Z)) (View C Co)) : Type 0 where
    pub sys : System
    pub orderly : Orderly sys
    pub laid : sys.plan ≡ Some k.plan
    pub words : t.words ≡ words_of sys
    pub views : map (λ v. v.seen) t.views ≡ sys.views
    pub seats : length t.views ≤ k.seats
    pub slots : (place : ℕ) (word : PlaceWord) → slice_get sys.places place ≡ Some word → Stands k.course.value word (get_elem? t.homes place)
    pub told : (i : ℕ) (v : View C Co) → get_elem? t.views i ≡ some v → Knows k (length t.views) (live_count sys.views) i v

-- A seat with these turns has the slots of their places, each empty.
abbrev pub Hands : {S : Type 0} → List (ℕ × Key) → List (ℕ × Option S) → Type 0
Hands turns carried = (places : List ℕ) × (carried ≡ held None places) × ((p : ℕ) → times p places ≡ turns_at p turns)

-- What is known of a seat between two calls.
module _ {C Co Z : Type 0} where
  pub record IsSeat (k : About C Co) (number : ℕ) (me : Me (Option (Arc C Z)) (View C Co)) : Type 0 where
    pub fits : AboutFits k
    pub about : me.0.about ≡ Some k
    pub live : me.0.seen.spent ≡ false
    pub numbers : (rest : List ℕ) × (me.0.seen.numbers ≡ number ∷ rest)
    pub small : number < k.seats
    pub leads : me.0.leads ≡ (number == 0)
    pub made : me.0.leads ≡ true → me.0.made ≡ k.seats
    pub met : me.0.met ≡ 0
    pub idle : me.0.seen.loan ≡ None
    pub places : (i : ℕ) (turn : ℕ × Key) → slice_get me.0.seen.turns i ≡ Some turn → place_of k.plan turn.1 ≡ Some turn.0
    pub hands : Hands me.0.seen.turns me.1
