use Rattle.std.proofs.Common.{rules}
use Rattle.trace_bundle.proofs.Sending.{own-framed}
use Rattle.trace_bundle.proofs.to_bytes.write_branch.Goals as goal

pub send_branch-requires-clause-ran : goal.send_branch-requires-clause-ran
send_branch-requires-clause-ran g c = c.requires.ran.run

pub send_branch-requires-clause-own : goal.send_branch-requires-clause-own
send_branch-requires-clause-own g c = λ s l. own-framed c.args.course.now _ _ _ s c.requires.ran l

pub returns-in_err-send_branch-clause-refused : goal.returns-in_err-send_branch-clause-refused
returns-in_err-send_branch-clause-refused g c = search rules
