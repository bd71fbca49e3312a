use Rattle.std.proofs.Common.{◌∙◌, arith}
use Rattle.agent_shell.proofs.Lowered.{lowered-removes_at, lowered-sets_at}
use Rattle.agent_shell.proofs.shell.lower_at.Goals as goal

pub returns-then-order-shares : goal.returns-then-order-shares
returns-then-order-shares c token at found =
    c.shift_remove_index.ensures.entries ∙ lowered-removes_at token c.args.shares c.args.order c.args.own.now.entries c.args.at at found c.if-order-shares.true

pub returns-else-order-shares : goal.returns-else-order-shares
returns-else-order-shares c token at found =
    lowered-sets_at token c.args.shares c.args.order c.args.own.now.entries c.args.at at found (omega arith)
