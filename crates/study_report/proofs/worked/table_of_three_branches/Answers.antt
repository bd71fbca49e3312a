use Rattle.std.proofs.Common.{refl}
use Rattle.std.specs.Fmt.{digits}
use Rattle.csv.proofs.OnLiterals.{csv_on_literals}
use Rattle.csv.specs.Writing.{escaped, fields_text, is_blank}
use Rattle.study_report.proofs.worked.table_of_three_branches.Goals as goal

pub returns : goal.returns
unfolding csv_on_literals escaped fields_text is_blank digits
returns c = record { table = refl; header = refl; negative = refl; quiet = refl; full = refl }
