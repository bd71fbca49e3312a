use Rattle.trace_bundle.proofs.Tallies.{bundle-count, bundle-total, tallies-own}
use Rattle.trace_bundle.proofs.lines.tally_of_bundle.Goals as goal

pub send_bundle-requires-clause-own : goal.send_bundle-requires-clause-own
send_bundle-requires-clause-own g c = tallies-own c.args.course.now (g.W.RunOutcomes.kept_of c.args.ran.now) c.in_ok-segments.segments.tallies.items c.in_ok-segments.ensures

pub send_bundle-requires-clause-ran : goal.send_bundle-requires-clause-ran
send_bundle-requires-clause-ran g c = c.requires.run

pub returns-clause-count : goal.returns-clause-count
returns-clause-count g c = bundle-count c.args.course.now c.new-tally.result c.send_bundle.new.to c.know_course.ensures c.new-tally.ensures c.in_ok-send_bundle.ensures

pub returns-clause-total : goal.returns-clause-total
returns-clause-total g c = bundle-total c.args.course.now c.new-tally.result c.send_bundle.new.to c.know_course.ensures c.new-tally.ensures c.in_ok-send_bundle.ensures
