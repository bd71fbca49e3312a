use Rattle.std.proofs.Common.{◌≡◌, ◌∙◌, Option, length, sym, ap, arith, rules}
use Rattle.study_market.specs.declared.early_refusal.Refusal.{Refusal}
use Rattle.study_market.specs.EntryTests.{earlier}
use Rattle.study_market.proofs.EntryOrder.{none-for, one-and-rest, one-and-rest-said}
use Rattle.study_market.proofs.reading.+push_entries.Goals as goal

pub returns-in_ok-later-in-Some-clause-broken : goal.returns-in_ok-later-in-Some-clause-broken
returns-in_ok-later-in-Some-clause-broken g t c =
    c.earlier.ensures
    ∙ ap (λ (o : Option Refusal). earlier o c.in_ok-later-in-Some.later) c.placed.ensures
    ∙ one-and-rest 0 (g.R.EntryReading.tests c.args.reading.now) c.args.place c.args.entries.now c.in-Some.entry.now c.in-Some.rest.now
    c.in_ok-rule-in-Some.rule c.in_ok-later-in-Some.later (g.met.R.EntryReading.rising c.args.reading.now) c.in-Some.ensures.cases.0
    c.in_ok-rule-in-Some.ensures.broken c.in_ok-later-in-Some.ensures.broken

pub returns-in_ok-later-in-Some-clause-said : goal.returns-in_ok-later-in-Some-clause-said
returns-in_ok-later-in-Some-clause-said g t c = λ none.
    one-and-rest-said (g.R.EntryReading.items_of c.args.reading.now) c.args.place c.args.entries.now c.in-Some.entry.now c.in-Some.rest.now
    c.in_ok-rule-in-Some.rule c.in_ok-later-in-Some.later c.args.list.now.items c.read.new.list.items c.push_entries.new.list.items c.in-Some.ensures.cases.0
    c.in_ok-rule-in-Some.ensures.said c.in_ok-later-in-Some.ensures.said
    (sym (c.earlier.ensures ∙ ap (λ (o : Option Refusal). earlier o c.in_ok-later-in-Some.later) c.placed.ensures) ∙ none)

pub returns-in-None-clause-broken : goal.returns-in-None-clause-broken
returns-in-None-clause-broken g t c =
    let none = c.in-None.ensures.cases in
    let empty : length c.args.entries.now ≡ 0 = first_of (cc none, omega (arith, none), search (rules, none)) in
    none-for (g.R.EntryReading.tests c.args.reading.now) c.args.place c.args.entries.now empty
