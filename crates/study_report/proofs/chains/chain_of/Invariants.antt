use Rattle.study_report.proofs.Chained.{IsClimbed}
use Rattle.study_report.proofs.chains.chain_of.Given as goal

abbrev pub invariant-loop-parent : goal.invariant-loop-parent
invariant-loop-parent l = IsClimbed l.course l.branch l.at l.chain.items

abbrev pub decreases-loop-parent : goal.decreases-loop-parent
decreases-loop-parent l = l.at
