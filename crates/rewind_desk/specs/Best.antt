-- The most events, up to a number, of a state of a branch that a closed shelf holds.
use Rattle.std.specs.Prelude.{ℕ, ◌==◌, ◌&&◌, Bool, nat_le, if◌then◌else◌, max, List, [], ◌∷◌, ◌++◌}
use Rattle.std.specs.List.{list_any}
use Rattle.branch_tree.specs.Plan.{Plan}
use Rattle.branch_tree.specs.Segments.{last_of}
use Rattle.shelf_core.specs.declared.plan.Key.{Key}
use Rattle.shelf_core.specs.declared.plan.ShelfPlan.{ShelfPlan}
use Rattle.shelf_core.specs.Words.{is_ready}
use Rattle.shelf_core.specs.Possible.{word_at}
use Rattle.checkpoint_shelf.specs.Told.{ClosedTold}
use Rattle.kernel_copy.specs.Courses.{CourseTold, state_at}
use Rattle.kernel_copy.specs.Segmentwise.{chain_to}

-- the greatest count of those of these keys that pass a test; 0 where none does
abbrev pub most_among : (Key → ℕ) → (Key → Bool) → List Key → ℕ
most_among count test [] = 0
most_among count test (k ∷ ks) = max (if test k then count k else 0) (most_among count test ks)

-- how many events the course's state at a key has
abbrev pub count_at : CourseTold → Key → ℕ
count_at c k = (state_at c k).events

-- a segment is on the chain that ends with another
abbrev pub is_on : Plan → ℕ → ℕ → Bool
is_on p s q = list_any (λ x. x == q) (chain_to p s)

-- a key of a segment of the chain that ends with s, and its state has at most e events
abbrev pub is_near : CourseTold → ℕ → ℕ → Key → Bool
is_near c s e k = is_on c.plan s k.segment && nat_le (count_at c k) e

-- the keys for which a shelf is laid out: no others have a place
abbrev pub keys_in : ShelfPlan → List Key
keys_in plan = plan.forks ++ plan.grid

-- the closed shelf holds a state under a key
abbrev pub is_held : ClosedTold CourseTold → Key → Bool
is_held shelf k = is_ready k (word_at shelf.system k)

-- and under such a near one
abbrev pub is_held_near : ClosedTold CourseTold → ℕ → ℕ → Key → Bool
is_held_near shelf s e k = is_held shelf k && is_near shelf.course s e k

-- The most events, not more than e, of a state that the closed shelf holds under a key of a segment of a branch's chain; 0
-- where it holds none.
abbrev pub best : ClosedTold CourseTold → ℕ → ℕ → ℕ
best shelf b e = most_among (count_at shelf.course) (is_held_near shelf (last_of shelf.course.plan.branches b) e) (keys_in shelf.plan)
