-- The frames of a reopening as messages.
use Rattle.std.specs.Prelude.{[], ◌∷◌}
use Rattle.wire_fields.specs.Values.{number, bytes, side_letter}
use Rattle.wire_fields.specs.Wire.{Wire}
use Rattle.reopen_cross.specs.declared.cross.Cross.{Cross}
use Rattle.reopen_cross.specs.declared.cross.Part.{Part}
use Rattle.reopening_desk.specs.Layouts.{cross_kinds, part_kinds}

-- `f`
abbrev pub part_wire : Part → Wire
part_wire p = record {
  letter = 102;
  kinds = part_kinds;
  values = bytes (side_letter p.side ∷ []) ∷ number p.reference ∷ number p.shares ∷ [];
}

-- `k`
abbrev pub cross_wire : Cross → Wire
cross_wire c = record {
  letter = 107;
  kinds = cross_kinds;
  values =
      number c.price ∷ number c.shares ∷ number c.buys ∷ number c.sells ∷ number c.cut ∷ number c.below ∷ number c.above ∷ [];
}
