use Rattle.bundle_reader.proofs.Made.{event_made}
use Rattle.bundle_reader.proofs.parts.event.Goals as goal

pub returns-clause-frame : goal.returns-clause-frame
returns-clause-frame c stocks =
    event_made stocks c.args.h.now c.args.rest.now c.args.body.now c.in_ok-body.body c.cast_signed.result c.in_ok-body.ensures.body c.requires.body
    c.cast_signed.ensures c.requires.range
