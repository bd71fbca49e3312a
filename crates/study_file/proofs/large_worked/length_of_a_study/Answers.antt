use Rattle.std.proofs.Common.{refl}
use Rattle.std.specs.Fmt.{digits}
use Rattle.study_file.specs.LargeStudy.{branches, head, key_of, makers, market, momentum_traders, noise_traders, value_traders}
use Rattle.study_file.proofs.large_worked.length_of_a_study.Goals as goal

pub returns : goal.returns
unfolding digits key_of head market makers noise_traders value_traders momentum_traders branches
returns c = refl
