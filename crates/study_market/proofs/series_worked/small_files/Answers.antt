use Rattle.std.proofs.Common.{refl}
use Rattle.csv.specs.Records.{field_at}
use Rattle.csv.proofs.OnLiterals.{csv_on_literals}
use Rattle.study_market.proofs.series_worked.small_files.Goals as goal

pub returns : goal.returns
unfolding csv_on_literals field_at
returns c = record {
  rows = refl;
  header_alone = refl;
  nothing = refl;
  other_header = refl;
  by_rule = refl;
  two_fields = refl;
  not_later = refl;
  no_price = refl;
  in_time = refl;
  late = refl;
}
