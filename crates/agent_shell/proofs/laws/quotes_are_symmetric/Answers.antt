use Rattle.std.proofs.Common.{arith}
use Rattle.std.proofs.lemmas.Int.{ints}
use Rattle.agent_shell.proofs.laws.quotes_are_symmetric.Goals as goal

pub returns : goal.returns
returns c m centre i = omega (arith, ints)
