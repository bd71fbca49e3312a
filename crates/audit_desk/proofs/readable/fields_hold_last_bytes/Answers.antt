use Rattle.audit_desk.proofs.HeldBundles.{bytes-same}
use Rattle.audit_desk.proofs.readable.fields_hold_last_bytes.Goals as goal

pub returns : goal.returns
returns g = λ b. bytes-same b
