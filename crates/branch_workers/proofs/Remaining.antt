-- What the run of a segment leaves of a seat's view, step by step.
use Rattle.std.proofs.Common.{◌≡◌, ◌<◌, ℕ, true, Some, sym, subst}
use Rattle.branch_tree.specs.Segments.{segment_at, last_of}
use Rattle.shelf_core.specs.declared.plan.ShelfPlan.{ShelfPlan}
use Rattle.shelf_core.specs.declared.seat.SeatView.{SeatView}
use Rattle.shelf_core.specs.Made.{Stays}
use Rattle.shelf_core.specs.Plan.{is_in, is_sole}
use Rattle.shelf_core.specs.After.{with_count}
use Rattle.kernel_copy.specs.Courses.{CourseTold}
use Rattle.branch_workers.specs.Layout.{end_key, key_at}
use Rattle.branch_workers.specs.Runs.{HasStates, IsPassed, Remains}

pub remains_of : (u v : SeatView) → Stays u v → Remains u v
remains_of u v s = record { numbers = s.numbers; claims = s.claims; known = s.known; found = s.found }

-- a count changes nothing else
pub remains_counted : (u v w : SeatView) → Stays u v → w ≡ with_count v → Remains u w
remains_counted u v w s e =
    subst (Remains u) (sym e) (record { numbers = s.numbers; claims = s.claims; known = s.known; found = s.found })

-- what was found and known before a segment's end went to the shelf is so behind the count
pub states_counted : (c : CourseTold) (plan : ShelfPlan) (n : ℕ) (u v w : SeatView) → Stays u v → w ≡ with_count v
    → ((q : ℕ) → (segment_at c.plan n).parent ≡ Some q → is_in (end_key c.plan q) u.found ≡ true)
    → (n < last_of c.plan.branches (segment_at c.plan n).branch → is_in (end_key c.plan n) v.known ≡ true)
    → ((k : ℕ) → is_in (key_at n k) plan.grid ≡ true → is_sole plan (key_at n k) ≡ true → IsPassed c n k → is_in (key_at n k) u.known ≡ true)
    → HasStates c plan n w
states_counted c plan n u v w s e parent fork grid =
    subst (HasStates c plan n) (sym e) (record {
      parent = λ q is. s.found (end_key c.plan q) (parent q is);
      fork = fork;
      grid = λ k there sole passed. s.known (key_at n k) (grid k there sole passed);
    })
