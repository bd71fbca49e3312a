-- Keys for worked examples.
use Rattle.std.specs.Prelude.{List, [], ◌∷◌, codes}
use Rattle.study_file.specs.Keys.{KeyRule, needed, spare, own}
use Rattle.study_file.specs.declared.keys.Kind.TheVariants.{Number, Text, Pairs}

-- the keys of a shape; a polygon has corners
abbrev pub shape_keys : List KeyRule
shape_keys =
    needed (codes "name") Text ∷ spare (codes "weight") Number ∷ own (codes "corners") Pairs (codes "polygon" ∷ []) ∷ []
