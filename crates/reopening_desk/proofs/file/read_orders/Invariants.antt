use Rattle.std.proofs.Common.{◌≡◌, ◌≤◌, ◌-◌, ◌++◌, ℕ, List, Some, true}
use Rattle.csv.specs.Reading.{Reached, Ready, default_config, is_flexible, reader_config, reader_state, reader_trim, source_of, strip_bom}
use Rattle.csv.specs.declared.parser.State.TheVariants as st
use Rattle.csv.specs.declared.reader.Trim.TheVariants as trim
use Rattle.reopening_desk.specs.Orders.{before, orders_from}
use Rattle.reopening_desk.proofs.file.read_orders.Given as goal

abbrev pub invariant-records : goal.invariant-records
invariant-records l = (l.number ≤ 16385) × (reader_trim l.reader ≡ trim.None) × (is_flexible l.reader ≡ true) × Ready l.reader
    × (reader_config l.reader ≡ default_config) × (y : List ℕ) × (source_of (λ s. Some s.now) l.reader ≡ Some y)
    × (done : List (List (List ℕ))) × Reached default_config st.StartRecord (strip_bom l.fn.text) done (reader_state l.reader) y
    × ((rest : List (List (List ℕ))) → orders_from l.fn.traders 0 (done ++ rest) ≡ before l.orders.items (orders_from l.fn.traders l.number rest))

abbrev pub decreases-records : goal.decreases-records
decreases-records l = 16386 - l.number
