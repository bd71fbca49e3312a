-- The frames that only a reopening has, each behind its length.
use Rattle.std.specs.Prelude.{ℕ, List}
use Rattle.wire_fields.specs.Wire.{spelling}
use Rattle.itch_codec.specs.Frames.{framed}
use Rattle.reopen_cross.specs.declared.cross.Cross.{Cross}
use Rattle.reopen_cross.specs.declared.cross.Part.{Part}
use Rattle.reopening_desk.specs.Wires.{cross_wire, part_wire}

-- what an order trades
unfoldable pub part_frame : Part → List ℕ
part_frame p = framed (spelling (part_wire p))

-- a crossing price with its certificate
unfoldable pub cross_frame : Cross → List ℕ
cross_frame c = framed (spelling (cross_wire c))
