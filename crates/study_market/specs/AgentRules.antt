-- The rules of a study's agents. Each gives the least place at which it is broken, which is the entry's, and is asked only where
-- every rule before it holds.
use Rattle.std.specs.Prelude.{ℕ, ◌+◌, ◌-◌, ◌*◌, ◌==◌, nat_le, unsigned_abs, ℤ, pos, int_le, int_lt, Bool, ◌&&◌, ◌||◌, not, List, [], ◌∷◌, Option, None, Some, option_and_then, if◌then◌else◌, length, codes}
use Rattle.toml.specs.Data.{Data, Members, as_integer, as_table, get_member}
use Rattle.study_file.specs.Keys.{has_form}
use Rattle.study_file.specs.Values.{number_or, number_at, list_at, is_between, has_between, first_failing}
use Rattle.study_market.specs.MarketRules.{size_of, start_of, is_group}
use Rattle.study_market.specs.StockRules.{symbols}
use Rattle.study_market.specs.AgentForms.{agent_form}
use Rattle.study_market.specs.ChangeRules.{names_stock, is_kind}

-- at least one agent entry; counts are 1 to 511 and their sum at most 511
abbrev pub agents : Members → List Data
agents t = list_at (codes "agent") t

-- the count of an entry: 1 where it is left out, none where it is no number
abbrev pub count_found : Option Data → Option ℤ
count_found None = Some (pos 1)
count_found (Some d) = as_integer d

abbrev pub count_in : Data → Option ℤ
count_in d = option_and_then (λ t. count_found (get_member (codes "count") t)) (as_table d)

-- how many of so many traders are left after an entry, where its count is from 1 to so many
abbrev pub left_after : ℕ → Data → Option ℕ
left_after left d = elim (count_in d) [
  | None ↦ None
  | Some n ↦ if is_between (pos 1) (pos left) n then Some (left - unsigned_abs n) else None
]

-- the first entry whose count is none from 1 to what is left of all
abbrev pub first_too_many : ℕ → ℕ → List Data → Option ℕ
first_too_many left place [] = None
first_too_many left place (d ∷ ds) = elim (left_after left d) [ None ↦ Some place | Some rest ↦ first_too_many rest (place + 1) ds ]

abbrev pub counts_broken : Members → Option ℕ
counts_broken t = if length (agents t) == 0 then Some 0 else first_too_many 511 0 (agents t)

-- entry i has its keys with their types and no other, kind is known
abbrev pub agent_keys_broken : Members → Option ℕ
agent_keys_broken t = first_failing (has_form agent_form) (agents t)

-- group below the size; first at least open; spread and delay 0 to 3,600,000,000,000; every 1 to 3,600,000,000,000;
-- wobble 0 to 4,294,967,295; the last trader's first at most 86,399,999,999,999
abbrev pub count_of : Members → ℕ
count_of t = unsigned_abs (number_or (pos 1) (codes "count") t)

-- when the trader of this number wakes first, from 0
abbrev pub first_wakeup_at : ℕ → Members → ℕ
first_wakeup_at i t = unsigned_abs (number_at (codes "first") t) + i * unsigned_abs (number_at (codes "spread") t)

abbrev pub has_timing : ℕ → ℕ → Members → Bool
has_timing size start t =
    is_group size t
    && int_le (pos start) (number_at (codes "first") t)
    && has_between (pos 0) (pos 3600000000000) (codes "spread") t
    && has_between (pos 0) (pos 3600000000000) (codes "delay") t
    && has_between (pos 1) (pos 3600000000000) (codes "every") t
    && has_between (pos 0) (pos 4294967295) (codes "wobble") t
    && nat_le (first_wakeup_at (count_of t - 1) t) 86399999999999

abbrev pub timing_broken : Members → Option ℕ
timing_broken t = first_failing (has_timing (size_of t) (start_of t)) (agents t)

-- stock of entry i is known
abbrev pub agent_stock_broken : Members → Option ℕ
agent_stock_broken t = first_failing (names_stock (symbols t)) (agents t)

-- the kind's own keys are in their ranges
abbrev pub has_size : Members → Bool
has_size t = has_between (pos 1) (pos 999999) (codes "size") t

-- from 0 to 1,000,000,000
abbrev pub has_distance : List ℕ → Members → Bool
has_distance key t = has_between (pos 0) (pos 1000000000) key t

abbrev pub has_guess : Members → Bool
has_guess t = has_size t && has_distance (codes "noise") t && has_distance (codes "margin") t

abbrev pub has_spans : Members → Bool
has_spans t =
    has_size t
    && has_between (pos 1) (pos 64) (codes "short") t
    && has_between (pos 2) (pos 64) (codes "long") t
    && int_lt (number_at (codes "short") t) (number_at (codes "long") t)

abbrev pub has_levels : Members → Bool
has_levels t =
    has_size t
    && has_distance (codes "half") t
    && has_distance (codes "step") t
    && has_between (pos 1) (pos 8) (codes "levels") t
    && has_between (pos 0) (pos 3600000000000) (codes "pause") t

abbrev pub has_own : Members → Bool
has_own t =
    (not (is_kind (codes "noise") t) || has_size t)
    && (not (is_kind (codes "value") t) || has_guess t)
    && (not (is_kind (codes "momentum") t) || has_spans t)
    && (not (is_kind (codes "maker") t) || has_levels t)

abbrev pub own_broken : Members → Option ℕ
own_broken t = first_failing has_own (agents t)
