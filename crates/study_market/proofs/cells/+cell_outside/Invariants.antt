use Rattle.std.proofs.Common.{length}
use Rattle.study_market.proofs.cells.+cell_outside.Given as goal

abbrev pub decreases-cell_outside : goal.decreases-cell_outside
decreases-cell_outside l = length l.rows.now
