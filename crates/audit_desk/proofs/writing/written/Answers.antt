use Rattle.std.proofs.Common.{rules}
use Rattle.trace_bundle.proofs.Sending.{own-framed}
use Rattle.audit_desk.proofs.writing.written.Goals as goal

pub send_bundle-requires-clause-ran : goal.send_bundle-requires-clause-ran
send_bundle-requires-clause-ran g c = c.requires.run

pub send_bundle-requires-clause-own : goal.send_bundle-requires-clause-own
send_bundle-requires-clause-own g c = λ s l. own-framed c.args.course.now _ _ _ s c.requires l

pub returns : goal.returns
returns g c = search rules
