use Rattle.std.proofs.Common.{◌+◌, take, sym, ◌∙◌, refl}
use Rattle.branch_tree.proofs.LayLemmas.{mixed-here, mixed-next}
use Rattle.branch_tree.proofs.refusals.place_among_children.Goals as goal

pub returns-then-is_mixed : goal.returns-then-is_mixed
returns-then-is_mixed c =
    let bs = c.args.children.now in
    let i = c.loop-i.i in
    sym (mixed-here bs (take i bs) (i + 1) i c.index-children-i.result c.loop-i-test.true refl c.index-children-i.is c.if-is_mixed.ensures) ∙ c.loop-i.invariant

pub loop-i-preserved : goal.loop-i-preserved
loop-i-preserved c =
    let bs = c.args.children.now in
    let i = c.loop-i.i in
    sym (mixed-next bs (take i bs) (i + 1) i c.index-children-i.result c.loop-i-test.true refl c.index-children-i.is c.if-is_mixed.ensures) ∙ c.loop-i.invariant
