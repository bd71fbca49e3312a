use Rattle.std.specs.Prelude.{ℕ, ◌+◌, ◌%◌, ◌==◌, ◌&&◌, ◌||◌, not, Bool, true, false, List, [], ◌∷◌, Option, Some, None, length, nat_le, nat_lt, if◌then◌else◌}
use Rattle.std.specs.List.{list_any, list_all, position_from}
use Rattle.shelf_core.specs.declared.plan.Key.{Key}
use Rattle.shelf_core.specs.declared.plan.ShelfPlan.{ShelfPlan}

-- Two keys are one.
abbrev pub same_key : Key → Key → Bool
same_key a b = (a.segment == b.segment) && (a.event == b.event)

-- A key stands in a list.
abbrev pub is_in : Key → List Key → Bool
is_in key keys = list_any (λ k. same_key k key) keys

-- No key stands twice in a list.
abbrev pub are_distinct : List Key → Bool
are_distinct [] = true
are_distinct (key ∷ keys) = not (is_in key keys) && are_distinct keys

-- One key comes before another: by segment, and in one segment by event.
abbrev pub is_before : Key → Key → Bool
is_before a b = nat_lt a.segment b.segment || ((a.segment == b.segment) && nat_lt a.event b.event)

-- The keys of a list rise: each comes before all that stand behind it.
abbrev pub rise : List Key → Bool
rise [] = true
rise (key ∷ keys) = list_all (λ k. is_before key k) keys && rise keys

-- The place at which a key first stands in a list, counted from 0.
abbrev pub index_of : Key → List Key → Option ℕ
index_of key keys = position_from (λ k. same_key k key) 0 keys

-- The place of a key: fork i has place i, and the grid keys have the places behind the forks in turn. A key that
-- is neither has none, and where there are no places for the grid a grid key has none.
abbrev pub fork_or_grid : ShelfPlan → Option ℕ → Option ℕ → Option ℕ
fork_or_grid plan (Some fork) grid = Some fork
fork_or_grid plan None None = None
fork_or_grid plan None (Some i) = if plan.places == 0 then None else Some (length plan.forks + i % plan.places)

abbrev pub place_of : ShelfPlan → Key → Option ℕ
place_of plan key = fork_or_grid plan (index_of key plan.forks) (index_of key plan.grid)

-- A key's place is this one.
abbrev pub is_at : Option ℕ → ℕ → Bool
is_at None place = false
is_at (Some p) place = p == place

-- No other grid key has the place that a key has.
abbrev pub has_alone : ShelfPlan → Key → Option ℕ → Bool
has_alone plan key None = false
has_alone plan key (Some place) = list_all (λ k. same_key k key || not (is_at (place_of plan k) place)) plan.grid

-- A sole key: a fork key, or a grid key that has a place which no other grid key has.
abbrev pub is_sole : ShelfPlan → Key → Bool
is_sole plan key = is_in key plan.forks || has_alone plan key (place_of plan key)

-- The same, of a system's plan: where nothing is laid no key has a place, and none is sole.
abbrev pub place_in : Option ShelfPlan → Key → Option ℕ
place_in None key = None
place_in (Some plan) key = place_of plan key

abbrev pub sole_in : Option ShelfPlan → Key → Bool
sole_in None key = false
sole_in (Some plan) key = is_sole plan key

-- How many places a plan has.
abbrev pub place_count : ShelfPlan → ℕ
place_count plan = length plan.forks + plan.places

-- A place behind those of the forks.
abbrev pub is_grid_place : Option ShelfPlan → ℕ → Bool
is_grid_place None place = false
is_grid_place (Some plan) place = nat_le (length plan.forks) place

-- How many segments a system's plan has.
abbrev pub segments_in : Option ShelfPlan → ℕ
segments_in None = 0
segments_in (Some plan) = plan.segments
