-- The first of some tables that doesn't pass a test, where the first one stands at a place.
use Rattle.std.specs.Prelude.{ℕ, Bool, not, List, Option}
use Rattle.std.specs.List.{position_from}
use Rattle.toml.specs.Data.{Data, Members, as_table}
use Rattle.study_file.specs.Keys.{passes}

abbrev pub failing_from : (Members → Bool) → ℕ → List Data → Option ℕ
failing_from test place tables = position_from (λ d. not (passes test (as_table d))) place tables
