use Rattle.std.proofs.Common.{refl}
use Rattle.toml.proofs.OnLiterals.{toml_on_literals}
use Rattle.study_market.proofs.part_worked.two_stocks.Goals as goal

pub returns : goal.returns
unfolding toml_on_literals
returns c = record { changes = refl; traders = refl; series = refl }
