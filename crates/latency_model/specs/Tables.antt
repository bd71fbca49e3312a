-- The latency tables: two numbers for each ordered pair of groups. The sender's group picks the row, the receiver's the
-- column.
use Rattle.std.specs.Prelude.{ℕ, List, [], length, slice_index, slice_index_or, slice_set}

pub record Tables : Type 0 where
  pub base : List (List ℕ)
  pub jitter : List (List ℕ)

-- how many groups there are
abbrev pub group_count : Tables → ℕ
group_count t = length t.base

-- the number in a row and a column
abbrev pub number_at : List (List ℕ) → ℕ → ℕ → ℕ
number_at rows row column = slice_index (slice_index_or rows row []) column

-- the rows with another number in a row and a column
abbrev pub with_number : {X : Type 0} → List (List X) → ℕ → ℕ → X → List (List X)
with_number rows row column n = slice_set rows row (slice_set (slice_index_or rows row []) column n)

-- the tables with other numbers for one pair
abbrev pub with_pair : Tables → ℕ → ℕ → ℕ → ℕ → Tables
with_pair t from to base jitter = record {
  base = with_number t.base from to base;
  jitter = with_number t.jitter from to jitter;
}
