use Rattle.std.proofs.Common.{refl}
use Rattle.toml.proofs.OnLiterals.{toml_on_literals}
use Rattle.study_market.proofs.worked.markets.Goals as goal

pub returns : goal.returns
unfolding toml_on_literals
returns c = record { accepted = refl; second_version = refl; third_version = refl; another_key = refl; wrong_type = refl; negative_open = refl; too_many_events = refl; stride_too_small = refl; no_delay = refl; not_square = refl; jitter_too_great = refl; no_such_group = refl }
