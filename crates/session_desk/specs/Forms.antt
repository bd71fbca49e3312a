-- The keys of a script and of its acts, in order.
use Rattle.std.specs.Prelude.{ℕ, false, List, [], ◌∷◌, codes}
use Rattle.study_file.specs.Keys.{KeyRule, Form, needed, own}
use Rattle.study_file.specs.declared.keys.Kind.{Kind}
use Rattle.study_file.specs.declared.keys.Kind.TheVariants.{Number, Text, Tables}

-- the keys of a script
abbrev pub script_keys : List KeyRule
script_keys = needed (codes "act") Tables ∷ []

-- a key that tables of these kinds may have
abbrev pub spare_of : List ℕ → Kind → List (List ℕ) → KeyRule
spare_of name kind with = record { name = name; kind = kind; needed = false; with = with }

-- the kinds of acts that name a branch
abbrev pub naming_kinds : List (List ℕ)
naming_kinds = codes "fork" ∷ codes "edit" ∷ codes "rewind" ∷ codes "close" ∷ codes "values" ∷ []

-- the keys of an act; a fork's edits may be left out
abbrev pub act_form : Form
act_form = record {
  by = codes "kind";
  words = codes "fork" ∷ codes "undo" ∷ codes "edit" ∷ codes "rewind" ∷ codes "close" ∷ codes "values" ∷ [];
  keys =
      needed (codes "kind") Text
      ∷ own (codes "name") Text naming_kinds
      ∷ own (codes "parent") Text (codes "fork" ∷ [])
      ∷ own (codes "at") Number (codes "fork" ∷ [])
      ∷ spare_of (codes "edit") Tables (codes "fork" ∷ [])
      ∷ own (codes "edit") Tables (codes "edit" ∷ [])
      ∷ own (codes "event") Number (codes "rewind" ∷ [])
      ∷ [];
}
