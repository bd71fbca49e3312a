use Rattle.reopen_cross.proofs.Clears.{crosses-clear}
use Rattle.reopen_cross.proofs.laws.crosses_clear.Goals as goal

pub returns : goal.returns
returns c = crosses-clear
