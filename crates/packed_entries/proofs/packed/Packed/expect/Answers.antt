use Rattle.std.proofs.Common.{arith}
use Rattle.packed_entries.proofs.Packing.{same_whole}
use Rattle.packed_entries.proofs.packed.Packed.expect.Goals as goal

pub invariant_of-self : goal.invariant_of-self
invariant_of-self c = (
  same_whole _ _ _ _ c.reserve.ensures.list c.expect.ensures.lists c.self.invariant.0,
  omega (arith, c.reserve.ensures.never_falls, c.self.invariant.1),
  c.expect.ensures.room _ c.self.invariant.2,
)
