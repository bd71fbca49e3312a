-- The rules of a study's dated changes. Each gives the least place at which it is broken, which is the change's, and is asked only
-- where every rule before it holds.
use Rattle.std.specs.Prelude.{ℕ, ◌+◌, ◌==◌, unsigned_abs, ℤ, pos, Bool, ◌&&◌, ◌||◌, not, List, [], ◌∷◌, Option, None, Some, if◌then◌else◌, map, codes, unwrap_or}
use Rattle.std.specs.Str.{bytes_eq}
use Rattle.toml.specs.Data.{Data, Members, no_members, as_table}
use Rattle.study_file.specs.Tables.{is_named}
use Rattle.study_file.specs.Keys.{passes, has_form}
use Rattle.study_file.specs.Values.{number_at, string_at, list_at, is_between, first_failing}
use Rattle.study_market.specs.MarketRules.{start_of, close_of}
use Rattle.study_market.specs.StockRules.{symbols, has_bands, has_fees}
use Rattle.study_market.specs.AgentForms.{change_form}

-- at most 1,024 changes; change i has its keys with their types and no other, kind is tick, fee, halt or resume
abbrev pub changes : Members → List Data
changes t = list_at (codes "change") t

abbrev pub is_change : Data → Bool
is_change d = passes (has_form change_form) (as_table d)

-- the first that is no change, where the first one stands at a place; the one after 1,024 is one too many
abbrev pub first_no_change : ℕ → List Data → Option ℕ
first_no_change place [] = None
first_no_change place (d ∷ ds) = if place == 1024 || not (is_change d) then Some place else first_no_change (place + 1) ds

abbrev pub change_keys_broken : Members → Option ℕ
change_keys_broken t = first_no_change 0 (changes t)

-- time of change i is from open to close and not before the one before
abbrev pub time_in : Data → ℤ
time_in d = number_at (codes "time") (unwrap_or (as_table d) no_members)

abbrev pub first_before : ℕ → ℕ → ℕ → List ℤ → Option ℕ
first_before earliest close place [] = None
first_before earliest close place (z ∷ zs) =
    if is_between (pos earliest) (pos close) z then first_before (unsigned_abs z) close (place + 1) zs else Some place

abbrev pub dates_broken : Members → Option ℕ
dates_broken t = first_before (start_of t) (close_of t) 0 (map time_in (changes t))

-- stock of change i is known
abbrev pub names_stock : List (List ℕ) → Members → Bool
names_stock known t = is_named known (string_at (codes "stock") t)

abbrev pub change_stock_broken : Members → Option ℕ
change_stock_broken t = first_failing (names_stock (symbols t)) (changes t)

-- bands or fees of change i hold as for a stock
abbrev pub is_kind : List ℕ → Members → Bool
is_kind word t = bytes_eq (string_at (codes "kind") t) word

abbrev pub has_new_rules : Members → Bool
has_new_rules t = (not (is_kind (codes "tick") t) || has_bands t) && (not (is_kind (codes "fee") t) || has_fees t)

abbrev pub change_rules_broken : Members → Option ℕ
change_rules_broken t = first_failing has_new_rules (changes t)
