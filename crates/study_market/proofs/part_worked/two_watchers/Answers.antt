use Rattle.std.proofs.Common.{refl}
use Rattle.toml.proofs.OnLiterals.{toml_on_literals}
use Rattle.study_market.proofs.part_worked.two_watchers.Goals as goal

pub returns : goal.returns
unfolding toml_on_literals
returns c = record { opening = refl; stride = refl }
