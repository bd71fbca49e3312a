use Rattle.std.proofs.Common.{◌≡◌, ◌∙◌, Bor, List, ℕ, Option, None, option_map, sym, subst}
use Rattle.toml.specs.View.{table_view}
use Rattle.market_floor.specs.Opening.{IsOpening}
use Rattle.study_market.specs.FirstOfMarket.{first_broken}
use Rattle.study_market.proofs.Held.{square-held, counted-held}
use Rattle.study_market.proofs.EntryOrder.{told}
use Rattle.study_market.proofs.Judging.{none_refused, market_refused, stocks_refused, series_refused, late_refused, changes_refused, agents_refused}
use Rattle.study_market.proofs.Openings.{is-opening}
use Rattle.study_market.proofs.refusal.read_opening.Goals as goal

pub late_refusal-requires : goal.late_refusal-requires
late_refusal-requires c = counted-held (table_view c.args.table.now) c.in_ok-stocks.ensures.kept

pub read_changes-requires : goal.read_changes-requires
read_changes-requires c = counted-held (table_view c.args.table.now) c.in_ok-stocks.ensures.kept

pub read_traders-requires : goal.read_traders-requires
read_traders-requires c = record {
  square = square-held (table_view c.args.table.now) c.in_ok-keep_market_rules.ensures.kept;
  stocks = counted-held (table_view c.args.table.now) c.in_ok-stocks.ensures.kept;
}

pub opening-requires : goal.opening-requires
opening-requires c =
    let t = table_view c.args.table.now in
    let text : Option (List ℕ) = option_map (λ (x : Bor (List ℕ)). x.now) c.args.series in
    let accepted : first_broken t text ≡ None
    = none_refused t text c.in_ok-rows.rows c.in_ok-keep_market_rules.ensures.kept c.in_ok-stocks.ensures.kept c.in_ok-rows.ensures.rows
    (sym c.late_refusal.ensures ∙ c.in_ok-keep.ensures.kept) c.in_ok-dated.ensures.kept c.in_ok-traders.ensures.kept in record {
      accepted = record { series = text; accepted = accepted; rows = c.in_ok-rows.ensures.rows };
      stocks = c.in_ok-stocks.ensures.said;
      dated = c.in_ok-dated.ensures.said;
      traders = c.in_ok-traders.ensures.said;
    }

pub returns-clause-read : goal.returns-clause-read
returns-clause-read c =
    let t = table_view c.args.table.now in
    let text : Option (List ℕ) = option_map (λ (x : Bor (List ℕ)). x.now) c.args.series in record {
      tables = c.in_ok-rows.rows;
      accepted = none_refused t text c.in_ok-rows.rows c.in_ok-keep_market_rules.ensures.kept c.in_ok-stocks.ensures.kept c.in_ok-rows.ensures.rows
          (sym c.late_refusal.ensures ∙ c.in_ok-keep.ensures.kept) c.in_ok-dated.ensures.kept c.in_ok-traders.ensures.kept;
      rows = c.in_ok-rows.ensures.rows;
      said = c.in_ok-opening.ensures;
    }

pub returns-clause-fits : goal.returns-clause-fits
returns-clause-fits c =
    let t = table_view c.args.table.now in
    let text : Option (List ℕ) = option_map (λ (x : Bor (List ℕ)). x.now) c.args.series in
    let accepted : first_broken t text ≡ None
    = none_refused t text c.in_ok-rows.rows c.in_ok-keep_market_rules.ensures.kept c.in_ok-stocks.ensures.kept c.in_ok-rows.ensures.rows
    (sym c.late_refusal.ensures ∙ c.in_ok-keep.ensures.kept) c.in_ok-dated.ensures.kept c.in_ok-traders.ensures.kept in
    subst IsOpening (sym c.in_ok-opening.ensures) (is-opening t c.in_ok-rows.rows (record { series = text; accepted = accepted; rows = c.in_ok-rows.ensures.rows }))

pub returns-in_err-keep_market_rules-clause-refused : goal.returns-in_err-keep_market_rules-clause-refused
returns-in_err-keep_market_rules-clause-refused c =
    let t = table_view c.args.table.now in
    let text : Option (List ℕ) = option_map (λ (x : Bor (List ℕ)). x.now) c.args.series in
    told c.from_residual.result c.in_err-keep_market_rules.field-0.0 _ c.from_residual.ensures
    (λ p same. market_refused t text p (c.in_err-keep_market_rules.ensures.refused p same))

pub returns-in_err-stocks-clause-refused : goal.returns-in_err-stocks-clause-refused
returns-in_err-stocks-clause-refused c =
    let t = table_view c.args.table.now in
    let text : Option (List ℕ) = option_map (λ (x : Bor (List ℕ)). x.now) c.args.series in
    told c.from_residual-in_err-stocks.result c.in_err-stocks.field-0.0 _ c.from_residual-in_err-stocks.ensures
    (λ p same. stocks_refused t text p c.in_ok-keep_market_rules.ensures.kept (c.in_err-stocks.ensures.refused p same))

pub returns-in_err-rows-clause-refused : goal.returns-in_err-rows-clause-refused
returns-in_err-rows-clause-refused c =
    let t = table_view c.args.table.now in
    let text : Option (List ℕ) = option_map (λ (x : Bor (List ℕ)). x.now) c.args.series in
    told c.from_residual-in_err-rows.result c.in_err-rows.field-0.0 _ c.from_residual-in_err-rows.ensures
    (λ p same. series_refused t text p c.in_ok-keep_market_rules.ensures.kept c.in_ok-stocks.ensures.kept (c.in_err-rows.ensures.refused p same))

pub returns-in_err-keep-clause-refused : goal.returns-in_err-keep-clause-refused
returns-in_err-keep-clause-refused c =
    let t = table_view c.args.table.now in
    let text : Option (List ℕ) = option_map (λ (x : Bor (List ℕ)). x.now) c.args.series in
    told c.from_residual-in_err-keep.result c.in_err-keep.field-0.0 _ c.from_residual-in_err-keep.ensures
    (λ p same. late_refused t text c.in_ok-rows.rows p c.in_ok-keep_market_rules.ensures.kept c.in_ok-stocks.ensures.kept c.in_ok-rows.ensures.rows (sym c.late_refusal.ensures ∙ c.in_err-keep.ensures.refused p same))

pub returns-in_err-dated-clause-refused : goal.returns-in_err-dated-clause-refused
returns-in_err-dated-clause-refused c =
    let t = table_view c.args.table.now in
    let text : Option (List ℕ) = option_map (λ (x : Bor (List ℕ)). x.now) c.args.series in
    told c.from_residual-in_err-dated.result c.in_err-dated.field-0.0 _ c.from_residual-in_err-dated.ensures
    (λ p same. changes_refused t text c.in_ok-rows.rows p c.in_ok-keep_market_rules.ensures.kept c.in_ok-stocks.ensures.kept c.in_ok-rows.ensures.rows (sym c.late_refusal.ensures ∙ c.in_ok-keep.ensures.kept) (c.in_err-dated.ensures.refused p same))

pub returns-in_err-traders-clause-refused : goal.returns-in_err-traders-clause-refused
returns-in_err-traders-clause-refused c =
    let t = table_view c.args.table.now in
    let text : Option (List ℕ) = option_map (λ (x : Bor (List ℕ)). x.now) c.args.series in
    told c.from_residual-in_err-traders.result c.in_err-traders.field-0.0 _ c.from_residual-in_err-traders.ensures
    (λ p same. agents_refused t text c.in_ok-rows.rows p c.in_ok-keep_market_rules.ensures.kept c.in_ok-stocks.ensures.kept c.in_ok-rows.ensures.rows
    (sym c.late_refusal.ensures ∙ c.in_ok-keep.ensures.kept) c.in_ok-dated.ensures.kept (c.in_err-traders.ensures.refused p same))
