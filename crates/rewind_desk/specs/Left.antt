-- The states that the workers of a course may leave on a shelf.
use Rattle.std.specs.Prelude.{◌≡◌, ◌≤◌, ◌⊎◌, ℕ, Bool, true, false, ◌&&◌, ◌||◌, nat_le, is_some, length}
use Rattle.branch_tree.specs.Segments.{segment_at, last_of}
use Rattle.shelf_core.specs.declared.plan.Key.{Key}
use Rattle.shelf_core.specs.declared.plan.ShelfPlan.{ShelfPlan}
use Rattle.shelf_core.specs.Plan.{is_in, place_of}
use Rattle.kernel_copy.specs.Courses.{CourseTold}
use Rattle.kernel_copy.specs.Segmentwise.{from_count, is_past}
use Rattle.branch_workers.specs.Layout.{grid_keys}
use Rattle.rewind_desk.specs.Best.{most_among, count_at, is_near, keys_in}
use Rattle.rewind_desk.specs.Sure.{end_events, is_sure}

-- a segment's run stands at an event number: that of the events before its own, or of one of them
abbrev pub is_reached : CourseTold → ℕ → ℕ → Bool
is_reached c s e = nat_le (from_count c.opening c.plan (segment_at c.plan s)) e && nat_le e (end_events c s)

-- an event number lies past the end of a segment's run, up to its stop: the state at it is that of the end
abbrev pub is_behind : CourseTold → ℕ → ℕ → Bool
is_behind c s e = is_past (end_events c s) (segment_at c.plan s).stop e

-- a segment has a state at an event number
abbrev pub has_state : CourseTold → ℕ → ℕ → Bool
has_state c s e = is_reached c s e || is_behind c s e

-- The workers may leave the state of each fork key, and that of each grid key that has a place and at whose number its segment has
-- a state.
abbrev pub is_possible : CourseTold → ShelfPlan → Key → Bool
is_possible c plan k = is_in k plan.forks || (is_some (place_of plan k) && has_state c k.segment k.event)

-- Each grid key that has a place has it alone and lies within its segment's run, or no grid key has a place.
abbrev pub IsAmple : CourseTold → ℕ → ℕ → Type 0
IsAmple c stride places = (places ≡ 0) ⊎ ((length (grid_keys c.plan stride) ≤ places)
    × ((k : Key) → is_in k (grid_keys c.plan stride) ≡ true → is_behind c k.segment k.event ≡ false))

-- The most events, not more than e, of a state of a branch's chain whose key passes a test; 0 where there is none.
abbrev pub nearest_of : CourseTold → ShelfPlan → (Key → Bool) → ℕ → ℕ → ℕ
nearest_of c plan test b e = most_among (count_at c) (λ k. test k && is_near c (last_of c.plan.branches b) e k) (keys_in plan)

-- The states of these keys may be left together: they are all that the workers surely leave, none that they can't leave, and of the
-- keys that share a place one at most.
pub record AreLeft (c : CourseTold) (plan : ShelfPlan) (held : Key → Bool) : Type 0 where
  pub sure : (k : Key) → is_in k (keys_in plan) ≡ true → is_sure c plan k ≡ true → held k ≡ true
  pub possible : (k : Key) → is_in k (keys_in plan) ≡ true → held k ≡ true → is_possible c plan k ≡ true
  pub alone : (k l : Key) → held k ≡ true → held l ≡ true → place_of plan k ≡ place_of plan l → k ≡ l
