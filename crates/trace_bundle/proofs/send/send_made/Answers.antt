use Rattle.trace_bundle.proofs.Sending.{at-error}
use Rattle.trace_bundle.proofs.send.send_made.Goals as goal

pub returns-in_err-bytes : goal.returns-in_err-bytes
returns-in_err-bytes g c = λ bytes is.
    let to = c.args.to.now in
    let refused = c.in_err-bytes.field-0.0 in
    at-error (g.C.Carrier.Carried to to bytes 1) (g.C.Error.From.from_gives refused) c.from_residual.result c.from_residual.ensures
    (λ error from. g.met.C.Carrier.memory to bytes 1 refused error from)
