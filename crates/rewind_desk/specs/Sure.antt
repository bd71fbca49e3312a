-- The states that the workers of a course surely leave on a shelf.
use Rattle.std.specs.Prelude.{◌≡◌, ◌≢◌, ◌<◌, ◌≤◌, ◌%◌, ℕ, Bool, true, ◌&&◌, ◌||◌, nat_le, nat_lt, Some, length}
use Rattle.branch_tree.specs.declared.stop.Stop.{Stop}
use Rattle.branch_tree.specs.declared.stop.Stop.TheVariants.{At, When}
use Rattle.branch_tree.specs.Plan.{Plan}
use Rattle.branch_tree.specs.Segments.{segments_in, segment_at, last_of}
use Rattle.shelf_core.specs.declared.plan.Key.{Key}
use Rattle.shelf_core.specs.declared.plan.ShelfPlan.{ShelfPlan}
use Rattle.shelf_core.specs.Plan.{is_in, is_sole}
use Rattle.checkpoint_shelf.specs.Told.{ClosedTold}
use Rattle.kernel_copy.specs.Courses.{CourseTold}
use Rattle.kernel_copy.specs.Segmentwise.{fork_number, from_count, segment_end}
use Rattle.branch_workers.specs.Layout.{start_number, stop_number}
use Rattle.rewind_desk.specs.Best.{most_among, count_at, is_near, keys_in, is_held}
use Rattle.rewind_desk.specs.Reach.{IsOn}

-- how many events a segment's end has
abbrev pub end_events : CourseTold → ℕ → ℕ
end_events c s = (segment_end c.opening c.plan (segment_at c.plan s)).state.events

-- a segment passes an event number: it begins with fewer events, and its end has so many or more
abbrev pub is_passed : CourseTold → ℕ → ℕ → Bool
is_passed c s e = nat_lt (from_count c.opening c.plan (segment_at c.plan s)) e && nat_le e (end_events c s)

-- The workers surely leave the state of each fork key, and that of each sole grid key whose number its segment passes.
abbrev pub is_sure : CourseTold → ShelfPlan → Key → Bool
is_sure c plan k = is_in k plan.forks || (is_sole plan k && is_passed c k.segment k.event)

abbrev pub is_sure_near : CourseTold → ShelfPlan → ℕ → ℕ → Key → Bool
is_sure_near c plan s e k = is_sure c plan k && is_near c s e k

-- The most events, not more than e, of a state of a branch's chain that the workers surely leave; 0 where there is none.
abbrev pub sure : CourseTold → ShelfPlan → ℕ → ℕ → ℕ
sure c plan b e = most_among (count_at c) (is_sure_near c plan (last_of c.plan.branches b) e) (keys_in plan)

-- The closed shelf holds each of them.
abbrev pub HoldsSure : ClosedTold CourseTold → Type 0
HoldsSure shelf = (k : Key) → is_in k (keys_in shelf.plan) ≡ true → is_sure shelf.course shelf.plan k ≡ true → is_held shelf k ≡ true

-- A shelf is laid out for a plan and a stride: the end of each segment that isn't its branch's last is a fork, and each multiple
-- of the stride strictly between a segment's start and its stop is in the grid. Where it starts at a time, that is from 0 on, and
-- where it stops at one, up to the limit of events.
pub record IsLaidFor (p : Plan) (stride : ℕ) (plan : ShelfPlan) : Type 0 where
  pub forks : (s : ℕ) → s < length (segments_in p) → s < last_of p.branches (segment_at p s).branch
      → is_in (record { segment = s; event = fork_number (segment_at p s).stop }) plan.forks ≡ true
  pub grid : (s n : ℕ) → s < length (segments_in p) → start_number (segment_at p s).start < n → n < stop_number p.limit (segment_at p s).stop → n % stride ≡ 0
      → is_in (record { segment = s; event = n }) plan.grid ≡ true

-- each grid key has a place of its own
abbrev pub AreAllSole : ShelfPlan → Type 0
AreAllSole plan = (k : Key) → is_in k plan.grid ≡ true → is_sole plan k ≡ true

-- So many events or more stand as a stop says, where it is an event number. Nothing is asked at a time, from which the grid
-- begins at 0.
abbrev pub IsWhole : Stop → ℕ → Type 0
IsWhole (At n) events = n ≤ events
IsWhole (When w) events = Unit {0}

-- No state on a branch's path was ended before the stop at which the next branch forks: where that is an event number, all
-- events up to it stand.
abbrev pub IsWholeAtForks : CourseTold → ℕ → Type 0
IsWholeAtForks c b = (s q : ℕ) → IsOn c.plan (last_of c.plan.branches b) s → (segment_at c.plan s).parent ≡ Some q
    → (segment_at c.plan q).branch ≢ (segment_at c.plan s).branch → IsWhole (segment_at c.plan q).stop (end_events c q)
