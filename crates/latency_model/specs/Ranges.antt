-- The ranges of latency tables.
use Rattle.std.specs.Prelude.{ℕ, ◌≡◌, ◌≤◌, List, length, All}
use Rattle.market_types.specs.Limits.{longest_delay}
use Rattle.latency_model.specs.Tables.{Tables, group_count}

-- a table of this many rows, each with this many numbers
pub record IsSquare (size : ℕ) (table : List (List ℕ)) : Type 0 where
  pub rows : length table ≡ size
  pub columns : All (λ row. length row ≡ size) table

-- both tables have a number for each pair of the same 1 to 32 groups, and no base is above an hour (a jitter may be any number of
-- 32 bits)
pub record IsInRange (t : Tables) : Type 0 where
  pub some_group : 1 ≤ group_count t
  pub few_groups : group_count t ≤ 32
  pub base_square : IsSquare (group_count t) t.base
  pub jitter_square : IsSquare (group_count t) t.jitter
  pub base_low : All (All (λ n. n ≤ longest_delay)) t.base
