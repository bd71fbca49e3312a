use Rattle.std.proofs.Common.{refl}
use Rattle.toml.proofs.OnLiterals.{toml_on_literals}
use Rattle.study_rules.proofs.worked.timed_studies.Goals as goal

pub returns : goal.returns
unfolding toml_on_literals
returns c = record { by_number = refl; from_open_to_close = refl; of_one_kind = refl; another_kind_than_its_parent = refl; time_in_version_1 = refl; both = refl; neither = refl; before_the_open = refl; after_the_close = refl; below_its_parent = refl; negative_under_a_time = refl; past_the_events = refl; of_two_kinds = refl }
