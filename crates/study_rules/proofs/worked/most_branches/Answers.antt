use Rattle.std.proofs.Common.{refl}
use Rattle.study_rules.proofs.worked.most_branches.Goals as goal

pub returns : goal.returns
returns c = record { version_1 = refl; one_more_in_version_1 = refl; version_2 = refl; one_more_in_version_2 = refl }
