use Rattle.std.proofs.Common.{refl}
use Rattle.std.proofs.Math.Nat.{div-one}
use Rattle.bundle_frames.proofs.bodies.executed.Goals as goal

pub returns : goal.returns
returns c =
    simp (
      c.copy_from_slice-4.ensures.after,
      c.copy_from_slice-3.ensures.after,
      c.copy_from_slice-2.ensures.after,
      c.copy_from_slice.ensures.after,
      c.answer_start.ensures,
      c.to_be_bytes.ensures,
      c.to_be_bytes-2.ensures,
      c.to_be_bytes-3.ensures,
      div-one,
    )
    refl
