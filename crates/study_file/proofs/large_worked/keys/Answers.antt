use Rattle.std.proofs.Common.{refl}
use Rattle.study_file.specs.LargeStudy.{key_of}
use Rattle.study_file.proofs.large_worked.keys.Goals as goal

pub returns : goal.returns
unfolding key_of
returns c = record { seven = refl; three_digits = refl }
