use Rattle.std.proofs.Common.{refl}
use Rattle.csv.specs.Records.{field_at}
use Rattle.csv.proofs.OnLiterals.{csv_on_literals}
use Rattle.toml.proofs.OnLiterals.{toml_on_literals}
use Rattle.study_market.proofs.agent_worked.studies.Goals as goal

pub returns : goal.returns
unfolding toml_on_literals csv_on_literals field_at
returns c = record { accepted = refl; no_events = refl; two_fees = refl; rows_in_time = refl; late_row = refl; no_such_row = refl; change_too_early = refl; too_many_traders = refl; too_many_in_all = refl; watcher_has_no_size = refl; late_spread = refl; unknown_stock = refl }
