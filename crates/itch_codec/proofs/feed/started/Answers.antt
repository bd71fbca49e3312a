use Rattle.std.proofs.Common.{refl}
use Rattle.std.proofs.Math.Nat.{div-one}
use Rattle.itch_codec.proofs.feed.started.Goals as goal

pub returns-clause-bytes : goal.returns-clause-bytes
returns-clause-bytes c =
    simp (
      c.push-3.ensures.bytes,
      c.push-2.ensures.bytes,
      c.push.ensures.bytes,
      c.begun-bytes.ensures,
      c.to_be_bytes.ensures,
      c.to_be_bytes-2.ensures,
      c.to_be_bytes-3.ensures,
      div-one,
    )
    refl
