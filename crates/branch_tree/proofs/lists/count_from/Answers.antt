use Rattle.std.proofs.Common.{◌+◌, ◌-◌, ◌++◌, ℕ, List, ap, ◌∙◌}
use Rattle.branch_tree.specs.Segments.{counted}
use Rattle.branch_tree.proofs.LayLemmas.{counted-more}
use Rattle.branch_tree.proofs.lists.count_from.Goals as goal

pub loop-i-preserved : goal.loop-i-preserved
loop-i-preserved c =
    let k = c.args.first in
    let n = c.args.count in
    let i = c.loop-i.i in
    ap (λ (xs : List ℕ). xs ++ counted (k + (i + 1)) (n - (i + 1))) c.in_ok-add.ensures
    ∙ counted-more c.loop-i.numbers.items (counted k n) k n i c.loop-i-test.true c.loop-i.invariant
