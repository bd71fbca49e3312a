-- The nearest state that a closed shelf holds.
use Rattle.std.specs.Prelude.{◌≡◌, ◌≤◌, ℕ, true, List, Option, None, Some, IfSome, is_some, nat_lt, if◌then◌else◌}
use Rattle.std.specs.List.{list_any}
use Rattle.shelf_core.specs.Plan.{is_in}
use Rattle.shelf_core.specs.declared.plan.Key.{Key}
use Rattle.checkpoint_shelf.specs.Told.{ClosedTold}
use Rattle.kernel_copy.specs.Courses.{CourseTold, IsKeyOf}
use Rattle.rewind_desk.specs.declared.near.Near.{Near}
use Rattle.rewind_desk.specs.Best.{most_among, count_at, is_held, is_held_near}
use Rattle.branch_tree.specs.Plan.{Plan}
use Rattle.branch_tree.specs.Segments.{segment_at}
use Rattle.rewind_desk.specs.Reach.{IsOn}

-- the events of a state, if there is one; else 0
abbrev pub events_of : Option Near → ℕ
events_of None = 0
events_of (Some n) = n.events

-- the one of two with more events; the later one where they have as many
abbrev pub nearer_of : Option Near → Option Near → Option Near
nearer_of a None = a
nearer_of None (Some b) = Some b
nearer_of (Some a) (Some b) = if nat_lt b.events a.events then Some a else Some b

-- a segment at which a run begins: that of the state, or where there is none one that goes on from no other
abbrev pub IsBeginning : Plan → Option Near → ℕ → Type 0
IsBeginning p None s = (segment_at p s).parent ≡ None
IsBeginning p (Some n) s = n.key.segment ≡ s

-- The shelf holds the course's state at this key, which has so many events, at most e.
pub record IsHeld (shelf : ClosedTold CourseTold) (e : ℕ) (n : Near) : Type 0 where
  pub held : is_held shelf n.key ≡ true
  pub key : IsKeyOf shelf.course n.key
  pub events : n.events ≡ count_at shelf.course n.key
  pub early : n.events ≤ e

-- Of these keys, those under which the shelf holds a state are keys of its course.
abbrev pub HasKeys : ClosedTold CourseTold → List Key → Type 0
HasKeys shelf keys = (k : Key) → is_in k keys ≡ true → is_held shelf k ≡ true → IsKeyOf shelf.course k

-- It is one that the shelf holds under one of these keys of the chain that ends with s, with the most events up to e; there is
-- none exactly where the shelf holds none.
pub record IsNearest (shelf : ClosedTold CourseTold) (s e : ℕ) (keys : List Key) (found : Option Near) : Type 0 where
  pub some : is_some found ≡ list_any (is_held_near shelf s e) keys
  pub most : events_of found ≡ most_among (count_at shelf.course) (is_held_near shelf s e) keys
  pub held : IfSome found (IsHeld shelf e)
  pub chain : IfSome found (λ n. IsOn shelf.course.plan s n.key.segment)
  pub of : HasKeys shelf keys
