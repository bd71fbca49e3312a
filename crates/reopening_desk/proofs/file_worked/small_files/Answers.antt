use Rattle.std.proofs.Common.{refl}
use Rattle.csv.specs.Records.{field_at}
use Rattle.csv.proofs.OnLiterals.{csv_on_literals}
use Rattle.reopening_desk.proofs.file_worked.small_files.Goals as goal

pub returns : goal.returns
unfolding csv_on_literals field_at
returns c = record {
  five = refl;
  spellings = refl;
  header_alone = refl;
}
