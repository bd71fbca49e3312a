use Rattle.std.proofs.Common.{arith}
use Rattle.packed_entries.proofs.Rooms.{for_none}
use Rattle.packed_entries.proofs.packed.make_room.Goals as goal

pub returns-in_err-reserve-2-clause-columns : goal.returns-in_err-reserve-2-clause-columns
returns-in_err-reserve-2-clause-columns c = for_none _ _ (omega arith)
