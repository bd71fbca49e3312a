use Rattle.std.proofs.Common.{refl, sym, ◌∙◌}
use Rattle.study_rules.specs.EditRules.{edit_in}
use Rattle.study_rules.proofs.Reading.{entry-broken, entry-kept, entries-said}
use Rattle.study_rules.proofs.made.+push_edits.Goals as goal

pub returns-in_ok-push-in-Some-2-clause-place : goal.returns-in_ok-push-in-Some-2-clause-place
returns-in_ok-push-in-Some-2-clause-place t c =
    entry-kept (edit_in c.args.scope.now) c.args.place c.args.entries.now c.in-Some.entry.now c.in-Some.rest.now c.in-Some-2.edit c.push_edits.result
    refl c.in-Some.ensures.cases.0 (sym c.in-Some-2.is ∙ c.in_ok-edit-in-Some.ensures) c.push_edits.ensures.place

pub returns-in_ok-push-in-Some-2-clause-said : goal.returns-in_ok-push-in-Some-2-clause-said
returns-in_ok-push-in-Some-2-clause-said t c =
    entries-said (edit_in c.args.scope.now) c.args.entries.now c.in-Some.entry.now c.in-Some.rest.now c.in-Some-2.edit c.args.edits.now.items c.push.new.self.items
    c.push_edits.new.edits.items c.push_edits.result c.in-Some.ensures.cases.0 (sym c.in-Some-2.is ∙ c.in_ok-edit-in-Some.ensures)
    c.in_ok-push-in-Some-2.ensures.items c.push_edits.ensures.said

pub returns-in-None-2-clause-place : goal.returns-in-None-2-clause-place
returns-in-None-2-clause-place t c =
    entry-broken (edit_in c.args.scope.now) c.args.place c.args.entries.now c.in-Some.entry.now c.in-Some.rest.now
    refl c.in-Some.ensures.cases.0 (sym c.in-None-2.is ∙ c.in_ok-edit-in-Some.ensures)
