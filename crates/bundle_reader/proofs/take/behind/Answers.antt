use Rattle.std.proofs.Common.{◌≡◌, ◌∙◌, ◌++◌, ◌∷◌, [], ap, length, map, arith}
use Rattle.bundle_reader.specs.Told.{BranchTold, begun_told, branch_told, whole_told}
use Rattle.bundle_reader.specs.Order.{branch_of}
use Rattle.bundle_reader.proofs.Behind.{behind_is, pushed_is}
use Rattle.bundle_reader.proofs.take.behind.Goals as goal

pub returns : goal.returns
returns c =
    let stocks : length c.args.closing.stocks ≡ c.args.whole.header.stocks = omega (arith, c.if-len-from.false) in
    let agents : length c.args.closing.agents ≡ c.args.whole.header.agents = omega (arith, c.if-len-from-2.false) in
    let x : BranchTold = branch_of (begun_told c.args.begun) c.args.entries.list c.args.ended c.args.closing in
    let pushed = pushed_is c.args.whole.branches c.push.new.self c.whole_branch-told.result c.in_default.ensures.pushed
    ∙ ap (λ (t : BranchTold). map branch_told c.args.whole.branches ++ t ∷ []) c.whole_branch-told.ensures in
    behind_is (whole_told c.args.whole) x (map branch_told c.push.new.self) c.args.frame c.next.result stocks agents pushed c.next.ensures
