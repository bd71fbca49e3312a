use Rattle.reopen_cross.proofs.Sums.{buys-fall, sells-rise}
use Rattle.reopen_cross.proofs.laws.sides_cross_once.Goals as goal

pub returns-clause-buys : goal.returns-clause-buys
returns-clause-buys c = buys-fall

pub returns-clause-sells : goal.returns-clause-sells
returns-clause-sells c = sells-rise
