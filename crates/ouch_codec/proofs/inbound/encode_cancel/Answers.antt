use Rattle.std.proofs.Common.{append_assoc, refl}
use Rattle.std.proofs.Math.Nat.{div-one}
use Rattle.ouch_codec.proofs.inbound.encode_cancel.Goals as goal

pub returns-clause-spelling : goal.returns-clause-spelling
returns-clause-spelling c = simp (c.to_array.ensures, c.push-2.ensures.bytes, c.push.ensures.bytes, c.begun-bytes.ensures, c.to_be_bytes.ensures, append_assoc, div-one) refl

pub returns-clause-spelled : goal.returns-clause-spelled
returns-clause-spelled c = λ in_range. record { same = returns-clause-spelling c; in_range = in_range }
