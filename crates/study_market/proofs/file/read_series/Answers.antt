use Rattle.std.proofs.Common.{◌≡◌, ◌∙◌, List, ℕ, Result, Ok, Err, sym, ap, subst, map, length, IfOk, IfErr}
use Rattle.toml.specs.View.{view}
use Rattle.fundamental_series.specs.declared.rule.SeriesRow.{SeriesRow}
use Rattle.study_market.specs.declared.file.SeriesError.{SeriesError}
use Rattle.study_market.specs.declared.file.SeriesError.TheVariants.{Refused}
use Rattle.study_market.specs.Records.{records_of}
use Rattle.study_market.specs.Rows.{rows_from, read_rows, at_end}
use Rattle.study_market.proofs.OneByOne.{empty-tables, no-rows}
use Rattle.study_market.proofs.file.read_series.Goals as goal

pub take_records-requires : goal.take_records-requires
take_records-requires c = record {
  length = empty-tables (length c.args.stocks.now) c.in-Ok.tables c.in-Ok.ensures;
  untrimmed = c.record_reader-reader.ensures.untrimmed;
  flexible = c.record_reader-reader.ensures.flexible;
  ready = c.record_reader-reader.ensures.ready;
  config = c.record_reader-reader.ensures.config;
  state = c.record_reader-reader.ensures.state;
}

pub returns-in-Ok-take_records-clause-rows : goal.returns-in-Ok-take_records-clause-rows
returns-in-Ok-take_records-clause-rows c =
    let stocks = map view c.args.stocks.now in
    let same : read_rows stocks c.args.text.now ≡ at_end c.in-Ok-take_records.number c.take_records.new.tables
    = ap (λ (t : List (List SeriesRow)). rows_from stocks 0 t (records_of c.args.text.now)) (no-rows c.args.stocks.now ∙ sym c.in-Ok.ensures)
    ∙ c.in-Ok-take_records.ensures.rows c.args.text.now c.record_reader-reader.ensures.source in
    subst (λ (r : Result (List (List SeriesRow)) ℕ). IfOk c.finished.result (λ (t : List (List SeriesRow)). r ≡ Ok t)) (sym same) c.finished.ensures.rows

pub returns-in-Ok-take_records-clause-refused : goal.returns-in-Ok-take_records-clause-refused
returns-in-Ok-take_records-clause-refused c =
    let stocks = map view c.args.stocks.now in
    let same : read_rows stocks c.args.text.now ≡ at_end c.in-Ok-take_records.number c.take_records.new.tables
    = ap (λ (t : List (List SeriesRow)). rows_from stocks 0 t (records_of c.args.text.now)) (no-rows c.args.stocks.now ∙ sym c.in-Ok.ensures)
    ∙ c.in-Ok-take_records.ensures.rows c.args.text.now c.record_reader-reader.ensures.source in
    subst (λ (r : Result (List (List SeriesRow)) ℕ). IfErr c.finished.result (λ (e : SeriesError). (n : ℕ) → e ≡ Refused n → r ≡ Err n)) (sym same) c.finished.ensures.refused

pub returns-in-Err-clause-refused : goal.returns-in-Err-clause-refused
returns-in-Err-clause-refused c n e =
    ap (λ (t : List (List SeriesRow)). rows_from (map view c.args.stocks.now) 0 t (records_of c.args.text.now)) (no-rows c.args.stocks.now ∙ sym c.in-Ok.ensures)
    ∙ c.in-Err.ensures.refused n e c.args.text.now c.record_reader-reader.ensures.source
