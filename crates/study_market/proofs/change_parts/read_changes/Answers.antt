use Rattle.std.proofs.Common.{◌≡◌, ◌∙◌, ap, sym, Option, None, Some, IfNone}
use Rattle.toml.specs.View.{table_view}
use Rattle.market_rules.specs.Changes.{dates_refusal}
use Rattle.study_market.specs.MarketRules.{start_of, close_of}
use Rattle.study_market.specs.StockRules.{symbols}
use Rattle.study_market.specs.ChangeRules.{changes}
use Rattle.study_market.proofs.Held.{dates-held}
use Rattle.study_market.proofs.PartDates.{dates-rise}
use Rattle.study_market.proofs.change_parts.read_changes.Goals as goal

at-none : {A : Type 0} (o : Option A) (P : Type 0) → o ≡ None → IfNone o P → P
at-none None P e h = h
at-none (Some x) P e h = absurd (cc e)

pub returns-in-Ok-clause-said : goal.returns-in-Ok-clause-said
returns-in-Ok-clause-said c =
    let t = table_view c.args.table.now in
    let none : dates_refusal c.in_ok-list.list.items ≡ None
    = ap dates_refusal c.in_ok-list.ensures.said ∙ dates-rise (symbols t) (start_of t) (close_of t) (changes t) (dates-held t c.in_ok-list.ensures.kept) in
    let made = at-none (dates_refusal c.in_ok-list.list.items) _ none c.new.ensures.made in
    let same : c.in-Ok.dated ≡ c.in_ok-list.list.items = cc (sym c.in-Ok.is ∙ made) in
    same ∙ c.in_ok-list.ensures.said

pub returns-in-Err-clause-refused : goal.returns-in-Err-clause-refused
returns-in-Err-clause-refused c r e =
    let t = table_view c.args.table.now in
    let none : dates_refusal c.in_ok-list.list.items ≡ None
    = ap dates_refusal c.in_ok-list.ensures.said ∙ dates-rise (symbols t) (start_of t) (close_of t) (changes t) (dates-held t c.in_ok-list.ensures.kept) in
    let made = at-none (dates_refusal c.in_ok-list.list.items) _ none c.new.ensures.made in
    absurd (cc (sym made ∙ c.in-Err.is))
