use Rattle.std.proofs.Common.{◌≡◌, ◌∙◌, true, false, is_some, ap, sym, refl, rules}
use Rattle.toml.specs.View.{table_view}
use Rattle.study_file.specs.Keys.{has_form}
use Rattle.study_market.specs.Forms.{stock_form}
use Rattle.study_market.specs.StockRules.{has_symbol, has_bands, has_fees, has_prices, has_pace}
use Rattle.study_market.proofs.stock_parts.read_stock.Goals as goal

pub returns-in_default-clause-broken : goal.returns-in_default-clause-broken
returns-in_default-clause-broken c =
    let form : has_form stock_form (table_view c.args.stock.now) ≡ true = sym c.has_stock_keys.ensures ∙ c.if-not-has_stock_keys.false in
    let symbol : has_symbol (table_view c.args.stock.now) ≡ false = search rules in
    rw (form, symbol) refl

pub returns-in_default-read_fees-clause-broken : goal.returns-in_default-read_fees-clause-broken
returns-in_default-read_fees-clause-broken c =
    let form : has_form stock_form (table_view c.args.stock.now) ≡ true = sym c.has_stock_keys.ensures ∙ c.if-not-has_stock_keys.false in
    let symbol : has_symbol (table_view c.args.stock.now) ≡ true = search rules in
    let bands : has_bands (table_view c.args.stock.now) ≡ true = sym c.in_ok-ticks.ensures.kept ∙ ap is_some c.in-Some.is in
    let fees : has_fees (table_view c.args.stock.now) ≡ false = sym c.in_default-read_fees.ensures.kept in
    rw (form, symbol, bands, fees) refl

pub returns-then-not-has_prices-clause-broken : goal.returns-then-not-has_prices-clause-broken
returns-then-not-has_prices-clause-broken c =
    let form : has_form stock_form (table_view c.args.stock.now) ≡ true = sym c.has_stock_keys.ensures ∙ c.if-not-has_stock_keys.false in
    let symbol : has_symbol (table_view c.args.stock.now) ≡ true = search rules in
    let bands : has_bands (table_view c.args.stock.now) ≡ true = sym c.in_ok-ticks.ensures.kept ∙ ap is_some c.in-Some.is in
    let fees : has_fees (table_view c.args.stock.now) ≡ true = sym c.in-Some-read_fees.ensures.kept in
    let prices : has_prices (table_view c.args.stock.now) ≡ false = sym c.has_prices.ensures ∙ c.if-not-has_prices.true in
    rw (form, symbol, bands, fees, prices) refl

pub returns-then-not-has_pace-clause-broken : goal.returns-then-not-has_pace-clause-broken
returns-then-not-has_pace-clause-broken c =
    let form : has_form stock_form (table_view c.args.stock.now) ≡ true = sym c.has_stock_keys.ensures ∙ c.if-not-has_stock_keys.false in
    let symbol : has_symbol (table_view c.args.stock.now) ≡ true = search rules in
    let bands : has_bands (table_view c.args.stock.now) ≡ true = sym c.in_ok-ticks.ensures.kept ∙ ap is_some c.in-Some.is in
    let fees : has_fees (table_view c.args.stock.now) ≡ true = sym c.in-Some-read_fees.ensures.kept in
    let prices : has_prices (table_view c.args.stock.now) ≡ true = sym c.has_prices.ensures ∙ c.if-not-has_prices.false in
    let pace : has_pace c.args.span (table_view c.args.stock.now) ≡ false = sym c.has_pace.ensures ∙ c.if-not-has_pace.true in
    rw (form, symbol, bands, fees, prices, pace) refl

pub returns-clause-kept : goal.returns-clause-kept
returns-clause-kept c =
    let form : has_form stock_form (table_view c.args.stock.now) ≡ true = sym c.has_stock_keys.ensures ∙ c.if-not-has_stock_keys.false in
    let symbol : has_symbol (table_view c.args.stock.now) ≡ true = search rules in
    let bands : has_bands (table_view c.args.stock.now) ≡ true = sym c.in_ok-ticks.ensures.kept ∙ ap is_some c.in-Some.is in
    let fees : has_fees (table_view c.args.stock.now) ≡ true = sym c.in-Some-read_fees.ensures.kept in
    let prices : has_prices (table_view c.args.stock.now) ≡ true = sym c.has_prices.ensures ∙ c.if-not-has_prices.false in
    let pace : has_pace c.args.span (table_view c.args.stock.now) ≡ true = sym c.has_pace.ensures ∙ c.if-not-has_pace.false in
    rw (form, symbol, bands, fees, prices, pace) refl
