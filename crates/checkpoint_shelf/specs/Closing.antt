-- The system that a closed shelf was, by its words and the view of the seat that took in all others.
use Rattle.std.specs.Prelude.{◌≡◌, ℕ, ◌+◌, ◌-◌, ◌/◌, ◌%◌, nat_eq, List, [], ◌∷◌, map, take, drop, replicate, Option, Some, slice_get, length}
use mathlib.Core.Option.{some}
use lib.ListN.{get_elem?}
use Rattle.std.specs.declared.sync.Arc.{Arc}
use Rattle.shelf_core.specs.Plan.{place_count}
use Rattle.shelf_core.specs.Words.{value_under}
use Rattle.shelf_core.specs.Views.{spent_view}
use Rattle.shelf_core.specs.Orderly.{Orderly}
use Rattle.shelf_core.specs.declared.plan.Key.{Key}
use Rattle.shelf_core.specs.declared.plan.ShelfPlan.{ShelfPlan}
use Rattle.shelf_core.specs.declared.words.PlaceWord.{PlaceWord}
use Rattle.shelf_core.specs.declared.words.PlaceWord.TheVariants.{Ready}
use Rattle.shelf_core.specs.declared.seat.SeatView.{SeatView}
use Rattle.shelf_core.specs.declared.system.System.{System}
use Rattle.checkpoint_shelf.specs.declared.about.About.{About}
use Rattle.checkpoint_shelf.specs.Codes.{place_word_in, claim_word_in}
use Rattle.checkpoint_shelf.specs.Holds.{AboutFits}

abbrev pub first_word : List ℕ → ℕ
first_word [] = 0
first_word (n ∷ words) = n

abbrev pub other_words : List ℕ → List ℕ
other_words [] = []
other_words (n ∷ words) = words

abbrev pub places_in : ShelfPlan → List ℕ → List PlaceWord
places_in plan words = map place_word_in (take (place_count plan) (other_words words))

abbrev pub closed_system : ShelfPlan → ℕ → List ℕ → SeatView → System
closed_system plan seats words view = record {
  plan = Some plan;
  claims = map claim_word_in (drop (place_count plan) (other_words words));
  places = places_in plan words;
  home = map value_under (places_in plan words);
  done = first_word words / 2;
  stopped = nat_eq (first_word words % 2) 1;
  views = view ∷ replicate (seats - 1) spent_view;
}

-- What holds of the words and slots of a closed shelf.
module _ {C Co Z : Type 0} (key_of : C → Key) (course_of : C → Co) where
  pub record IsClosed (k : About C Co) (words : List ℕ) (slots : List (Option (Arc C Z))) (view : SeatView) : Type 0 where
    pub fits : AboutFits k
    pub words_long : length words ≡ 1 + place_count k.plan + k.plan.segments
    pub slots_long : length slots ≡ place_count k.plan
    pub orderly : Orderly (closed_system k.plan k.seats words view)
    pub values : (place : ℕ) (key : Key) → slice_get (places_in k.plan words) place ≡ Some (Ready key) → (a : Arc C Z) × (get_elem? slots place ≡ some (Some a)) × (key_of a.value ≡ key) × (course_of a.value ≡ k.course.value)
