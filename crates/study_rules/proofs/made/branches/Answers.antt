use Rattle.std.proofs.Common.{◌≡◌, sym, subst, None, length}
use Rattle.std.specs.Prelude.{All}
use Rattle.toml.specs.View.{table_view}
use Rattle.branch_tree.specs.declared.branch.Branch.{Branch}
use Rattle.branch_tree.specs.Tree.{IsRooted, plan_refusal}
use Rattle.study_market.specs.StockRules.{stocks}
use Rattle.study_market.specs.MarketRules.{size_of}
use Rattle.study_rules.specs.BranchRules.{events_of}
use Rattle.study_rules.specs.Fitting.{AreEditsAmong}
use Rattle.study_rules.proofs.Held.{are-held}
use Rattle.study_rules.proofs.Single.{if-ok, if-both}
use Rattle.study_rules.proofs.Planned.{planned, rooted}
use Rattle.study_rules.proofs.Making.{edits-fit}
use Rattle.study_rules.proofs.made.branches.Goals as goal

pub returns-clause-rooted : goal.returns-clause-rooted
returns-clause-rooted c =
    if-ok c.judged_branches.result _ _ (λ list same. subst IsRooted (sym same) (rooted (table_view c.args.table.now))) c.judged_branches.ensures.value

pub returns-clause-planned : goal.returns-clause-planned
returns-clause-planned c =
    let t = table_view c.args.table.now in
    if-both c.judged_branches.result _ _ _
    (λ list kept same. subst (λ bs. plan_refusal bs (events_of t) ≡ None) (sym same) (planned t (are-held t kept)))
    c.judged_branches.ensures.kept c.judged_branches.ensures.value

pub returns-clause-edits : goal.returns-clause-edits
returns-clause-edits c kinds words =
    let t = table_view c.args.table.now in
    if-both c.judged_branches.result _ _ _
    (λ list kept same. subst (λ bs. All (λ (b : Branch). AreEditsAmong (length (stocks t)) kinds (size_of t) b.edits) bs) (sym same)
    (edits-fit t (are-held t kept) kinds words))
    c.judged_branches.ensures.kept c.judged_branches.ensures.value
