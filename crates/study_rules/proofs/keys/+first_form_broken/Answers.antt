use Rattle.std.proofs.Common.{map}
use Rattle.study_rules.specs.BranchRules.{forms_broken}
use Rattle.toml.specs.View.{view}
use Rattle.study_rules.proofs.Walks.{edit-here, edit-later}
use Rattle.study_rules.proofs.keys.+first_form_broken.Goals as goal

pub returns-in-Some-forms_broken : goal.returns-in-Some-forms_broken
returns-in-Some-forms_broken t c =
    edit-here forms_broken c.args.place c.args.branches.now c.in-Some.branch.now c.in-Some.rest.now (map view c.branch_edits.result.now)
    c.in-Some-forms_broken.at c.in-Some.ensures.cases.0 c.branch_edits.ensures c.in-Some-forms_broken.ensures.place

pub returns-in-None-forms_broken : goal.returns-in-None-forms_broken
returns-in-None-forms_broken t c =
    edit-later forms_broken c.args.place c.args.branches.now c.in-Some.branch.now c.in-Some.rest.now (map view c.branch_edits.result.now)
    c.first_form_broken.result c.in-Some.ensures.cases.0 c.branch_edits.ensures c.in-None-forms_broken.ensures.place c.first_form_broken.ensures
