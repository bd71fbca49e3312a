use Rattle.std.proofs.Common.{◌<◌, ℕ, Some, map, take, length, bytes_eq, sym, ap, ◌∙◌, arith}
use Rattle.std.specs.List.{list_any}
use Rattle.toml.specs.View.{view}
use Rattle.toml.specs.declared.value.Value.{Value}
use Rattle.study_market.specs.StockRules.{symbol_in, first_repeated}
use Rattle.study_market.proofs.Repeats.{place-within, repeated}
use Rattle.study_market.proofs.stock.repeat_broken.Goals as goal

pub overflow_cast-result : goal.overflow_cast-result
overflow_cast-result c =
    let vs = c.few_stocks.result.now in
    let within : c.in-Some.at < length vs
    = place-within (λ (p : ℕ × Value). list_any (λ v. bytes_eq (symbol_in (view v)) (symbol_in (view p.1))) (take p.0 vs)) vs (Some c.in-Some.at) c.in-Some.ensures in
    omega (arith, within, c.few_stocks.ensures.few)

pub returns-in-Some : goal.returns-in-Some
returns-in-Some c =
    c.in-Some.ensures ∙ sym (repeated c.few_stocks.result.now) ∙ ap (λ ds. first_repeated (map symbol_in ds)) c.few_stocks.ensures.stocks

pub returns-in-None : goal.returns-in-None
returns-in-None c =
    c.in-None.ensures ∙ sym (repeated c.few_stocks.result.now) ∙ ap (λ ds. first_repeated (map symbol_in ds)) c.few_stocks.ensures.stocks
