use Rattle.std.specs.Prelude.{ℕ, Bool, true, false, List, [], ◌∷◌, Option, Some, None, suc}
use Rattle.shelf_core.specs.Plan.{same_key}
use Rattle.shelf_core.specs.declared.plan.Key.{Key}
use Rattle.shelf_core.specs.declared.words.ClaimWord.{ClaimWord}
use Rattle.shelf_core.specs.declared.words.ClaimWord.TheVariants.{Open, Taken}
use Rattle.shelf_core.specs.declared.words.PlaceWord.{PlaceWord}
use Rattle.shelf_core.specs.declared.words.PlaceWord.TheVariants.{Free, Writing, Ready, Lent}

-- A segment's word is there and is Open.
abbrev pub is_open : Option ClaimWord → Bool
is_open None = false
is_open (Some Open) = true
is_open (Some (Taken n)) = false

-- A place's word is there and is Ready of this key.
abbrev pub is_ready : Key → Option PlaceWord → Bool
is_ready key None = false
is_ready key (Some Free) = false
is_ready key (Some (Writing n)) = false
is_ready key (Some (Ready k)) = same_key k key
is_ready key (Some (Lent k n)) = false

-- A place's word is there and is Ready or Lent of this key.
abbrev pub is_held : Key → Option PlaceWord → Bool
is_held key None = false
is_held key (Some Free) = false
is_held key (Some (Writing n)) = false
is_held key (Some (Ready k)) = same_key k key
is_held key (Some (Lent k n)) = same_key k key

-- A place's word is there and is Ready or Lent, of whatever key.
abbrev pub is_filled : Option PlaceWord → Bool
is_filled None = false
is_filled (Some Free) = false
is_filled (Some (Writing n)) = false
is_filled (Some (Ready k)) = true
is_filled (Some (Lent k n)) = true

-- The value that is at home under a place's word.
abbrev pub value_under : PlaceWord → Option Key
value_under Free = None
value_under (Writing n) = None
value_under (Ready key) = Some key
value_under (Lent key n) = None

-- How many segments are taken.
abbrev pub taken_count : List ClaimWord → ℕ
taken_count [] = 0
taken_count (Open ∷ words) = taken_count words
taken_count (Taken n ∷ words) = suc (taken_count words)
