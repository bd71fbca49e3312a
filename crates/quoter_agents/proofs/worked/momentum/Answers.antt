use Rattle.std.proofs.Common.{refl}
use Rattle.quoter_agents.proofs.worked.momentum.Goals as goal

pub returns : goal.returns
returns c = record { first = refl; buys = refl; sells = refl; equal = refl; absent = refl; keeps_two = refl }
