use Rattle.std.proofs.Common.{refl}
use Rattle.toml.proofs.OnLiterals.{toml_on_literals}
use Rattle.study_file.proofs.worked.keys_of_shapes.Goals as goal

pub returns : goal.returns
unfolding toml_on_literals
returns c = record { held = refl; wrong_type = refl; missing = refl; no_pairs = refl; another_key = refl }
