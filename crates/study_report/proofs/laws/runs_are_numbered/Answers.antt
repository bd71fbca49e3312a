use Rattle.study_report.proofs.Numbering.{counted-full}
use Rattle.study_report.proofs.laws.runs_are_numbered.Goals as goal

pub returns : goal.returns
returns g = λ c b. (counted-full c.opening c.plan b c.opening.limit).numbered
