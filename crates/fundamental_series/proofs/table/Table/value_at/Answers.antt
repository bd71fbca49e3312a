use Rattle.std.proofs.Common.{◌≡◌, ◌-◌, ◌/◌, ◌<◌, length, ap, ◌∙◌, subst, sym}
use Rattle.std.specs.Prelude.{min}
use Rattle.std.proofs.lemmas.List.{get_or_default}
use Rattle.fundamental_series.specs.Made.{RuleMade, rule_value}
use Rattle.fundamental_series.specs.Ranges.{IsPrice}
use Rattle.fundamental_series.specs.Value.{value_after}
use Rattle.fundamental_series.proofs.Steps.{value_price, within_table}
use Rattle.fundamental_series.proofs.table.Table.value_at.Goals as goal

pub returns-clause-value : goal.returns-clause-value
returns-clause-value c =
    let t = c.self.inside in
    let same : c.saturating_sub.result ≡ min c.args.time t.close - t.start = c.saturating_sub.ensures ∙ ap (λ n. n - t.start) c.min.ensures in
    let within : c.saturating_sub.result / t.rule.every < length t.values.items = within_table c.args.time t.close t.start t.rule.every (length t.values.items) c.saturating_sub.result c.self.invariant.steps c.self.invariant.long same in
    c.index.ensures ∙ get_or_default t.values.items (c.saturating_sub.result / t.rule.every) _ 0 within ∙ c.self.invariant.table (c.saturating_sub.result / t.rule.every) within
    ∙ ap (λ n. value_after t.key t.stock t.rule (n / t.rule.every)) same ∙ ap (λ (m : RuleMade). rule_value m c.args.time) c.self.view_is

pub returns-clause-price : goal.returns-clause-price
returns-clause-price c =
    let t = c.self.inside in
    let same : c.saturating_sub.result ≡ min c.args.time t.close - t.start = c.saturating_sub.ensures ∙ ap (λ n. n - t.start) c.min.ensures in
    let within : c.saturating_sub.result / t.rule.every < length t.values.items = within_table c.args.time t.close t.start t.rule.every (length t.values.items) c.saturating_sub.result c.self.invariant.steps c.self.invariant.long same in
    subst IsPrice (sym (c.index.ensures ∙ get_or_default t.values.items (c.saturating_sub.result / t.rule.every) _ 0 within ∙ c.self.invariant.table (c.saturating_sub.result / t.rule.every) within)) (value_price t.key t.stock t.rule c.self.invariant.start (c.saturating_sub.result / t.rule.every))
