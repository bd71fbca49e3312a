use Rattle.agent_shell.proofs.Differ.{tokens_unequal}
use Rattle.agent_shell.proofs.Next.{all-next}
use Rattle.agent_shell.proofs.laws.tokens_are_given_once.Goals as goal

pub returns-clause-once : goal.returns-clause-once
returns-clause-once c = tokens_unequal

pub returns-clause-rising : goal.returns-clause-rising
returns-clause-rising c = all-next
