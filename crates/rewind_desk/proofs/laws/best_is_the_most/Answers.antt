use Rattle.rewind_desk.proofs.Mosts.{best-most, best-one, best-within}
use Rattle.rewind_desk.proofs.laws.best_is_the_most.Goals as goal

pub returns : goal.returns
returns c = record { most = best-most; one = best-one; within = best-within }
