-- The fields of the frames of a reopening in order, behind the letter of their kind.
use Rattle.std.specs.Prelude.{List, [], ◌∷◌}
use Rattle.wire_fields.specs.declared.kind.Kind.{Kind}
use Rattle.wire_fields.specs.declared.kind.Kind.TheVariants.{Number, Side}

-- `f`: side, reference, shares
abbrev pub part_kinds : List Kind
part_kinds = Side ∷ Number 8 ∷ Number 4 ∷ []

-- `k`: price, shares, shares to buy and to sell, cut, shares to sell up to it, shares to buy beyond it
abbrev pub cross_kinds : List Kind
cross_kinds = Number 4 ∷ Number 8 ∷ Number 8 ∷ Number 8 ∷ Number 4 ∷ Number 8 ∷ Number 8 ∷ []
