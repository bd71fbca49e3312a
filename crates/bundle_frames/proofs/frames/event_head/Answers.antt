use Rattle.std.proofs.Common.{refl}
use Rattle.std.proofs.Math.Nat.{div-one}
use Rattle.bundle_frames.proofs.frames.event_head.Goals as goal

pub returns : goal.returns
returns c =
    simp (
      c.copy_from_slice-3.ensures.after,
      c.copy_from_slice-2.ensures.after,
      c.copy_from_slice.ensures.after,
      c.event_start.ensures,
      c.event_way.ensures,
      c.event_end.ensures,
      div-one,
    )
    refl
