use Rattle.study_rules.proofs.FirstVersion.{no-times}
use Rattle.study_rules.proofs.laws.first_version_has_no_times.Goals as goal

pub returns : goal.returns
returns c = no-times
