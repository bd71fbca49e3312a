use Rattle.probe_desk.proofs.Summing.{column-is, sums_of-append}
use Rattle.probe_desk.proofs.laws.columns_are_sums.Goals as goal

pub returns-clause-parts : goal.returns-clause-parts
returns-clause-parts g = λ xs ys. sums_of-append xs ys

pub returns-clause-columns : goal.returns-clause-columns
returns-clause-columns g = λ k es small. column-is k es small
