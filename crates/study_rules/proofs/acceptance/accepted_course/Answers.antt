use Rattle.std.proofs.Common.{◌≡◌, ◌∙◌, List, None, All, map, ap, sym, subst}
use Rattle.toml.specs.View.{table_view}
use Rattle.branch_tree.specs.declared.branch.Branch.{Branch}
use Rattle.branch_tree.specs.Plan.{Plan}
use Rattle.branch_tree.specs.Tree.{IsRooted, plan_refusal}
use Rattle.agent_shell.specs.declared.setting.TraderSetting.{TraderSetting}
use Rattle.market_floor.specs.declared.opening.Opening.{Opening}
use Rattle.market_floor.specs.Opening.{IsOpening}
use Rattle.kernel_copy.specs.Courses.{AreEdits}
use Rattle.study_market.specs.Opening.{opening_of}
use Rattle.study_market.specs.Traders.{traders_of}
use Rattle.study_market.proofs.Openings.{is-opening}
use Rattle.study_rules.specs.Branches.{branches_of}
use Rattle.study_rules.proofs.Held.{are-held}
use Rattle.study_rules.proofs.Planned.{planned, rooted}
use Rattle.study_rules.proofs.Making.{edits-fit as edits-among}
use Rattle.study_rules.proofs.Editing.{kinds-said, edits-fit}
use Rattle.study_rules.proofs.acceptance.accepted_course.Goals as goal

pub branch_plan-requires-clause-rooted : goal.branch_plan-requires-clause-rooted
branch_plan-requires-clause-rooted c = subst IsRooted (sym c.requires.said) (rooted (table_view c.args.table.now))

pub branch_plan-requires-clause-planned : goal.branch_plan-requires-clause-planned
branch_plan-requires-clause-planned c =
    let t = table_view c.args.table.now in
    ap (λ (bs : List Branch). plan_refusal bs c.args.opening.limit) c.requires.said
    ∙ ap (λ (o : Opening). plan_refusal (branches_of t) o.limit) c.requires.accepted.said
    ∙ planned t (are-held t c.requires.branches)

pub new-requires : goal.new-requires
new-requires c =
    let t = table_view c.args.table.now in
    let rows = c.requires.accepted.tables in
    let among = edits-among t (are-held t c.requires.branches) (map (λ (s : TraderSetting). s.kind) (traders_of t)) (kinds-said t rows c.requires.accepted.accepted) in
    let fit : All (λ (b : Branch). AreEdits (opening_of t rows) b.edits) (branches_of t) = edits-fit t rows (branches_of t) among in
    record {
      opening = subst IsOpening (sym c.requires.accepted.said) (is-opening t rows c.requires.accepted.accepted);
      limit = ap (λ (p : Plan). p.limit) c.in-Ok.ensures;
      edits = subst (λ (o : Opening). All (λ (b : Branch). AreEdits o b.edits) c.in-Ok.plan.branches) (sym c.requires.accepted.said)
          (subst (λ (bs : List Branch). All (λ (b : Branch). AreEdits (opening_of t rows) b.edits) bs) (sym (ap (λ (p : Plan). p.branches) c.in-Ok.ensures ∙ c.requires.said)) fit);
    }
