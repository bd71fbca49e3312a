use Rattle.std.proofs.Common.{◌∙◌, ap, map}
use Rattle.std.specs.List.{filter_map}
use Rattle.toml.specs.View.{view}
use Rattle.study_rules.specs.Entries.{entry_of}
use Rattle.study_rules.specs.EditRules.{edit_in}
use Rattle.study_rules.specs.Branches.{number_named}
use Rattle.study_rules.proofs.Reading.{same-branch}
use Rattle.study_rules.proofs.made.read_branch.Goals as goal

pub returns-in-Ok-clause-said : goal.returns-in-Ok-clause-said
returns-in-Ok-clause-said c =
    let listed = rw c.in-Ok.is at c.in_ok-edits.ensures.said in
    same-branch _ _ _ _ _ _ _ _ c.read_name.ensures (c.number_named.ensures ∙ ap (number_named (map view c.args.branches.now)) c.parent_name.ensures)
    c.read_stop.ensures (c.new.ensures ∙ listed ∙ ap (filter_map (λ d. edit_in c.args.scope.now (entry_of d))) c.branch_edits.ensures)
