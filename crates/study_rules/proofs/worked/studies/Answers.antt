use Rattle.std.proofs.Common.{refl}
use Rattle.toml.proofs.OnLiterals.{toml_on_literals}
use Rattle.hex.proofs.OnLiterals.{hex_on_literals}
use Rattle.wire_fields.specs.Kinds.{is_good}
use Rattle.wire_fields.specs.Wire.{fault}
use Rattle.study_rules.proofs.worked.studies.Goals as goal

pub returns : goal.returns
unfolding toml_on_literals hex_on_literals fault is_good
returns c = record { accepted = refl; another_key = refl; capital_letter = refl; named_root = refl; second_of_two_names = refl; parent_after_it = refl; below_its_parent = refl; past_the_events = refl; unknown_kind = refl; no_such_group = refl; no_such_stock = refl; no_order = refl; watcher_has_no_size = refl; an_order = refl }
