use Rattle.std.proofs.Common.{refl, sym, ◌∙◌}
use Rattle.study_rules.specs.Scope.{scope_of_opening}
use Rattle.study_rules.proofs.Reading.{entry-broken, entry-kept, entries-said}
use Rattle.session_desk.specs.Acts.{act_in}
use Rattle.session_desk.proofs.list.+push_acts.Goals as goal

pub returns-in_ok-push-in-Some-2-clause-place : goal.returns-in_ok-push-in-Some-2-clause-place
returns-in_ok-push-in-Some-2-clause-place t c =
    entry-kept (act_in (scope_of_opening c.args.study.now.course.value.opening)) c.args.place c.args.entries.now c.in-Some.entry.now c.in-Some.rest.now c.in-Some-2.act c.push_acts.result
    refl c.in-Some.ensures.cases.0 (sym c.in-Some-2.is ∙ c.in_ok-act-in-Some.ensures) c.push_acts.ensures.place

pub returns-in_ok-push-in-Some-2-clause-said : goal.returns-in_ok-push-in-Some-2-clause-said
returns-in_ok-push-in-Some-2-clause-said t c =
    entries-said (act_in (scope_of_opening c.args.study.now.course.value.opening)) c.args.entries.now c.in-Some.entry.now c.in-Some.rest.now c.in-Some-2.act c.args.acts.now.items c.push.new.self.items
    c.push_acts.new.acts.items c.push_acts.result c.in-Some.ensures.cases.0 (sym c.in-Some-2.is ∙ c.in_ok-act-in-Some.ensures)
    c.in_ok-push-in-Some-2.ensures.items c.push_acts.ensures.said

pub returns-in-None-2-clause-place : goal.returns-in-None-2-clause-place
returns-in-None-2-clause-place t c =
    entry-broken (act_in (scope_of_opening c.args.study.now.course.value.opening)) c.args.place c.args.entries.now c.in-Some.entry.now c.in-Some.rest.now
    refl c.in-Some.ensures.cases.0 (sym c.in-None-2.is ∙ c.in_ok-act-in-Some.ensures)
