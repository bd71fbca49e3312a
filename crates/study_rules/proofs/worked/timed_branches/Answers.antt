use Rattle.std.proofs.Common.{refl}
use Rattle.toml.proofs.OnLiterals.{toml_on_literals}
use Rattle.study_rules.proofs.worked.timed_branches.Goals as goal

pub returns : goal.returns
unfolding toml_on_literals
returns c = refl
