use Rattle.reopen_cross.proofs.Joins.{no-orders, one-joins}
use Rattle.reopen_cross.proofs.laws.an_order_joins.Goals as goal

pub returns-clause-none : goal.returns-clause-none
returns-clause-none c = no-orders

pub returns-clause-one : goal.returns-clause-one
returns-clause-one c = one-joins
