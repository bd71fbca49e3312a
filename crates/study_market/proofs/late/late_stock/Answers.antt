use Rattle.std.proofs.Common.{◌<◌, ◌&&◌, ℕ, Some, length, sym, ◌∙◌, arith}
use Rattle.toml.specs.View.{view}
use Rattle.toml.specs.declared.value.Value.{Value}
use Rattle.study_market.specs.StockRules.{is_by_rows}
use Rattle.study_market.specs.Rows.{rows_of}
use Rattle.study_market.specs.Late.{is_late}
use Rattle.study_market.proofs.OneByOne.{late-places}
use Rattle.study_market.proofs.Repeats.{place-within}
use Rattle.study_market.proofs.late.late_stock.Goals as goal

pub overflow_cast-result : goal.overflow_cast-result
overflow_cast-result c =
    let within : c.in-Some.at < length c.args.stocks.now
    = place-within (λ (p : ℕ × Value). is_by_rows (view p.1) && is_late c.args.start (rows_of c.args.tables.now p.0)) c.args.stocks.now (Some c.in-Some.at) c.in-Some.ensures in
    omega (arith, within)

pub returns-in-Some : goal.returns-in-Some
returns-in-Some c = c.in-Some.ensures ∙ sym (late-places c.args.start c.args.stocks.now c.args.tables.now)

pub returns-in-None : goal.returns-in-None
returns-in-None c = c.in-None.ensures ∙ sym (late-places c.args.start c.args.stocks.now c.args.tables.now)
