use Rattle.market_laws.proofs.Segments.{segment-branch, segment-state}
use Rattle.market_laws.proofs.laws.segments_stand_on_branches.Goals as goal

pub returns-clause-states : goal.returns-clause-states
returns-clause-states c = segment-state

pub returns-clause-branches : goal.returns-clause-branches
returns-clause-branches c = segment-branch
