use Rattle.std.proofs.Common.{take, sym, ◌∙◌, refl}
use Rattle.branch_tree.proofs.LayLemmas.{repeated-here, repeated-next}
use Rattle.branch_tree.proofs.refusals.place_of_repeated.Goals as goal

pub returns-then-is_named : goal.returns-then-is_named
returns-then-is_named c =
    let bs = c.args.branches.now in
    let i = c.loop-i.i in
    sym (repeated-here bs (take i bs) i c.index-branches-i.result c.loop-i-test.true refl c.index-branches-i.is c.if-is_named.ensures) ∙ c.loop-i.invariant

pub loop-i-preserved : goal.loop-i-preserved
loop-i-preserved c =
    let bs = c.args.branches.now in
    let i = c.loop-i.i in
    sym (repeated-next bs (take i bs) i c.index-branches-i.result c.loop-i-test.true refl c.index-branches-i.is c.if-is_named.ensures) ∙ c.loop-i.invariant
