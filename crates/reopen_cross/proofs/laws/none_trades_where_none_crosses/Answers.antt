use Rattle.reopen_cross.proofs.Clears.{none-crosses, some-trade}
use Rattle.reopen_cross.proofs.laws.none_trades_where_none_crosses.Goals as goal

pub returns-clause-nothing : goal.returns-clause-nothing
returns-clause-nothing c = none-crosses

pub returns-clause-something : goal.returns-clause-something
returns-clause-something c = some-trade
