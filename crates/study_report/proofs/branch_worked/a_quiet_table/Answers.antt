use Rattle.std.proofs.Common.{refl}
use Rattle.std.specs.Fmt.{digits}
use Rattle.csv.proofs.OnLiterals.{csv_on_literals}
use Rattle.csv.specs.Writing.{escaped, fields_text, is_blank}
use Rattle.kernel_core.specs.Step.{event_of}
use Rattle.kernel_core.specs.Until.{advanced}
use Rattle.kernel_copy.specs.Full.{full}
use Rattle.study_report.proofs.branch_worked.a_quiet_table.Goals as goal

pub returns : goal.returns
unfolding full advanced event_of csv_on_literals escaped fields_text is_blank digits
returns c = refl
