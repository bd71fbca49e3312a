-- Lemmas on reading records one by one.
use Rattle.std.proofs.Common.{◌≡◌, ◌∙◌, ◌≤◌, ℕ, ◌+◌, ◌&&◌, List, [], ◌∷◌, length, Some, None, Err, ap, map, replicate, arith}
use Rattle.std.proofs.lemmas.List.{length-replicate}
use Rattle.std.specs.Prelude.{position}
use Rattle.std.specs.List.{enumerate_from}
use Rattle.toml.specs.Data.{Data}
use Rattle.toml.specs.View.{view}
use Rattle.toml.specs.declared.value.Value.{Value}
use Rattle.study_file.proofs.KeyLists.{position-map, length-mapped}
use Rattle.study_market.specs.declared.file.SeriesError.TheVariants.{Refused}
use Rattle.study_market.specs.StockRules.{is_by_rows}
use Rattle.study_market.proofs.Repeats.{enumerate-map}
use Rattle.study_market.specs.Late.{is_late, first_late}
use Rattle.fundamental_series.specs.declared.rule.SeriesRow.{SeriesRow}
use Rattle.study_market.specs.Rows.{after_record, rows_from, rows_of, no_rows}

-- a record that is taken
pub taken : (stocks : List Data) (number : ℕ) (tables more : List (List SeriesRow)) (fields : List (List ℕ)) (rest : List (List (List ℕ)))
    → after_record stocks number tables fields ≡ Some more
    → rows_from stocks number tables (fields ∷ rest) ≡ rows_from stocks (number + 1) more rest
taken stocks number tables more fields rest e = rw (rows_from, e)

-- the record after one that is taken is at most the one after the last that may be
pub low-taken : (stocks : List Data) (number : ℕ) (tables more : List (List SeriesRow)) (fields : List (List ℕ))
    → after_record stocks number tables fields ≡ Some more
    → number + 1 ≤ 1000001
low-taken stocks number tables more fields e = grind arith

-- a record that is refused
pub refused : (stocks : List Data) (number : ℕ) (tables : List (List SeriesRow)) (fields : List (List ℕ)) (rest : List (List (List ℕ)))
    → after_record stocks number tables fields ≡ None
    → rows_from stocks number tables (fields ∷ rest) ≡ Err number
refused stocks number tables fields rest e = rw (rows_from, e)

-- places in the list of values and in the list of what they say
pub late-places : (start : ℕ) (vs : List Value) (tables : List (List SeriesRow))
    → first_late start (map view vs) tables
    ≡ position (λ (p : ℕ × Value). is_by_rows (view p.1) && is_late start (rows_of tables p.0)) (enumerate_from 0 vs)
late-places start vs tables =
    ap (position (λ (p : ℕ × Data). is_by_rows p.1 && is_late start (rows_of tables p.0))) (enumerate-map view 0 vs)
    ∙ position-map (λ (p : ℕ × Value). (p.0, view p.1)) (λ (p : ℕ × Data). is_by_rows p.1 && is_late start (rows_of tables p.0)) (enumerate_from 0 vs)

pub same_refusal : (m n : ℕ) → Refused m ≡ Refused n → m ≡ n
same_refusal m n e = cc e

pub empty-tables : (n : ℕ) (tables : List (List SeriesRow)) → tables ≡ replicate n [] → length tables ≡ n
empty-tables n tables e = ap length e ∙ length-replicate n []

pub no-rows : (vs : List Value) → no_rows (map view vs) ≡ replicate (length vs) []
no-rows vs = ap (λ (n : ℕ). replicate n []) (length-mapped view vs)
