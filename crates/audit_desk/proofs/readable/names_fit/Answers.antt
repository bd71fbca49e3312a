use Rattle.std.proofs.Common.{ℕ, ◌≤◌, List, length, All, subst}
use Rattle.std.proofs.lemmas.List.{take_all}
use Rattle.std.proofs.lemmas.List.Elements.{All-more}
use Rattle.branch_tree.specs.declared.branch.Branch.{Branch}
use Rattle.branch_tree.specs.Names.{IsNameLength}
use Rattle.audit_desk.proofs.readable.names_fit.Goals as goal

abbrev IsNamed : Branch → Type 0
IsNamed b = IsNameLength (length b.name)

pub loop-i-preserved : goal.loop-i-preserved
loop-i-preserved c =
    All-more IsNamed c.args.branches.now c.loop-i.i c.index-branches-i.result c.loop-i-test.true c.loop-i.invariant (record {
      some = subst (λ (n : ℕ). 1 ≤ n) c.len.ensures.value c.len.ensures.some;
      few = subst (λ (n : ℕ). n ≤ 32) c.len.ensures.value c.len.ensures.few;
    })

pub returns : goal.returns
returns c =
    let branches = c.args.branches.now in
    subst (λ (bs : List Branch). All IsNamed bs) (take_all c.loop-i.i branches c.loop-i-test.false) c.loop-i.invariant
