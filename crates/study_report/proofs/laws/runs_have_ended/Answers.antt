use Rattle.study_report.proofs.Ending.{full-ends}
use Rattle.study_report.proofs.laws.runs_have_ended.Goals as goal

pub returns : goal.returns
returns g = λ c b. full-ends c.opening c.plan b
