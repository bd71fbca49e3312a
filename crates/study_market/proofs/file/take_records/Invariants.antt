use Rattle.std.proofs.Common.{◌≡◌, ◌≤◌, ◌-◌, ◌++◌, ℕ, List, Some, true, map, length}
use Rattle.toml.specs.View.{view}
use Rattle.csv.specs.Reading.{Reached, Ready, default_config, is_flexible, reader_config, reader_state, reader_trim, source_of, strip_bom}
use Rattle.csv.specs.declared.parser.State.TheVariants as st
use Rattle.csv.specs.declared.reader.Trim.TheVariants as trim
use Rattle.study_market.specs.Rows.{rows_from}
use Rattle.study_market.proofs.file.take_records.Given as goal

abbrev pub invariant-records : goal.invariant-records
invariant-records l = (l.number ≤ 1000001) × (reader_trim l.reader ≡ trim.None) × (is_flexible l.reader ≡ true) × Ready l.reader
    × (reader_config l.reader ≡ default_config) × (length l.tables ≡ length l.fn.stocks)
    × ((text : List ℕ) → source_of (λ s. Some s.now) l.fn.reader ≡ Some (strip_bom text)
    → (y : List ℕ) × (source_of (λ s. Some s.now) l.reader ≡ Some y)
    × (done : List (List (List ℕ))) × Reached default_config st.StartRecord (strip_bom text) done (reader_state l.reader) y
    × ((rest : List (List (List ℕ)))
    → rows_from (map view l.fn.stocks) 0 l.fn.tables (done ++ rest) ≡ rows_from (map view l.fn.stocks) l.number l.tables rest))

abbrev pub decreases-records : goal.decreases-records
decreases-records l = 1000002 - l.number
