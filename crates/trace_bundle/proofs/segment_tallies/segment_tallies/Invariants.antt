use Rattle.trace_bundle.specs.Tallied.{AreTalliesOf}
use Rattle.trace_bundle.proofs.segment_tallies.segment_tallies.Given as goal

abbrev pub invariant-loop-segment : goal.invariant-loop-segment
invariant-loop-segment g l = AreTalliesOf l.course l.segment l.tallies.items
