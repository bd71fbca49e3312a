use Rattle.std.proofs.Common.{◌<◌, None, Some, length, arith, bytes_eq}
use Rattle.toml.specs.View.{view}
use Rattle.toml.specs.declared.value.Value.{Value}
use Rattle.study_file.proofs.KeyLists.{position-found}
use Rattle.study_market.specs.StockRules.{symbol_in}
use Rattle.study_market.proofs.Named.{is-known, known-at}
use Rattle.study_market.proofs.entries.stock_named.Goals as goal

pub overflow_cast-result : goal.overflow_cast-result
overflow_cast-result c =
    let within : c.in-Some.at < length c.args.stocks.now
    = position-found (λ (v : Value). bytes_eq (symbol_in (view v)) c.args.symbol.now) c.args.stocks.now (Some c.in-Some.at) c.in-Some.ensures in
    omega (arith, within)

pub returns-in-Some-clause-kept : goal.returns-in-Some-clause-kept
returns-in-Some-clause-kept c = is-known c.args.stocks.now c.args.symbol.now (Some c.in-Some.at) c.in-Some.ensures

pub returns-in-Some-clause-said : goal.returns-in-Some-clause-said
returns-in-Some-clause-said c = known-at c.args.stocks.now c.args.symbol.now c.in-Some.at c.in-Some.ensures

pub returns-in-None-clause-kept : goal.returns-in-None-clause-kept
returns-in-None-clause-kept c = is-known c.args.stocks.now c.args.symbol.now None c.in-None.ensures
