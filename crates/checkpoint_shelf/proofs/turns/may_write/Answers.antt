use Rattle.std.proofs.Common.{rules}
use Rattle.checkpoint_shelf.proofs.turns.may_write.Goals as goal

pub returns-then-len-place : goal.returns-then-len-place
returns-then-len-place c = search rules
