use Rattle.std.proofs.Common.{◌++◌, rules}
use Rattle.probe_desk.proofs.Summing.{sums-at, sums-both}
use Rattle.probe_desk.proofs.sums.Sums.followed_by.Goals as goal

pub returns-clause-sums : goal.returns-clause-sums
returns-clause-sums c = λ xs ys f g. sums-at _ _ (xs ++ ys) (search rules) (sums-both c.args.self.now c.args.others.now xs ys f g)
