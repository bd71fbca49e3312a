use Rattle.std.proofs.Common.{refl}
use Rattle.csv.specs.Records.{field_at}
use Rattle.csv.proofs.OnLiterals.{csv_on_literals}
use Rattle.reopening_desk.proofs.file_worked.faulty_files.Goals as goal

pub returns : goal.returns
unfolding csv_on_literals field_at
returns c = record {
  nothing = refl;
  other_header = refl;
  three_fields = refl;
  five_fields = refl;
  no_trader = refl;
  no_side = refl;
  no_shares = refl;
  no_price = refl;
}
