use Rattle.abides_run.specs.Output.{study_bundle}
use Rattle.trace_bundle.proofs.Sending.{own-framed}
use Rattle.abides_run.proofs.send.send_bundle.Goals as goal

pub send_bundle-requires-clause-ran : goal.send_bundle-requires-clause-ran
send_bundle-requires-clause-ran g c = c.requires.run

pub send_bundle-requires-clause-own : goal.send_bundle-requires-clause-own
send_bundle-requires-clause-own g c = λ s l. own-framed c.args.course.now _ _ _ s c.requires l

pub returns : goal.returns
unfolding study_bundle
returns g c = c.send_bundle.ensures
