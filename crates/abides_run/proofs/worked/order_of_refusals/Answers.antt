use Rattle.std.proofs.Common.{refl}
use Rattle.std.specs.Str.{is_utf8}
use Rattle.clap.proofs.OnLiterals.{clap_on_literals}
use Rattle.toml.proofs.OnLiterals.{toml_on_literals}
use Rattle.command_words.specs.Line.{rows_for}
use Rattle.study_rules.specs.Accepted.{study_of}
use Rattle.abides_run.proofs.worked.order_of_refusals.Goals as goal

pub returns : goal.returns
unfolding clap_on_literals toml_on_literals rows_for is_utf8 study_of
returns c = record {
  faulty = refl;
  missing = refl;
  absent_study = refl;
  long_study = refl;
  no_table = refl;
  no_series = refl;
  large = refl;
  fetched = refl;
  rules_first = refl;
  first_rule = refl;
}
