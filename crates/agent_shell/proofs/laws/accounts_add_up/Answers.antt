use Rattle.agent_shell.proofs.Sums.{shares-sum, paid-sum}
use Rattle.agent_shell.proofs.laws.accounts_add_up.Goals as goal

pub returns-clause-position : goal.returns-clause-position
returns-clause-position c = shares-sum

pub returns-clause-cash : goal.returns-clause-cash
returns-clause-cash c = paid-sum
