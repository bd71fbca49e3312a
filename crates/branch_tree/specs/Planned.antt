-- What is so of the segments of a tree of branches.
use Rattle.std.specs.Prelude.{◌≡◌, ◌<◌, ◌⊎◌, ℕ, List, Option, None, Some, length, slice_index_or}
use Rattle.branch_tree.specs.declared.branch.Branch.{Branch}
use Rattle.branch_tree.specs.declared.segment.Segment.{Segment}
use Rattle.branch_tree.specs.declared.stop.Stop.{Stop}
use Rattle.branch_tree.specs.Stops.{is_time, IsWithin, ComesAfter}
use Rattle.branch_tree.specs.Plan.{parent_at, stop_at}
use Rattle.branch_tree.specs.Segments.{last_of, no_segment}

-- Each branch after the root leaves an earlier branch within the limit, and branches with one parent leave it at stops of
-- one kind.
pub record IsTree (branches : List Branch) (limit : ℕ) : Type 0 where
  pub some : 0 < length branches
  pub parents : (b : ℕ) → 0 < b → b < length branches → parent_at branches b < b
  pub limits : (b : ℕ) → b < length branches → IsWithin limit (stop_at branches b)
  pub kinds : (b c : ℕ) → 0 < b → b < length branches → 0 < c → c < length branches → parent_at branches b ≡ parent_at branches c
      → is_time (stop_at branches b) ≡ is_time (stop_at branches c)

-- A segment goes on in its branch where the one before it stopped, and stops no earlier.
pub record IsNext (limit b : ℕ) (at to : Stop) (before : Segment) : Type 0 where
  pub branch : before.branch ≡ b
  pub meets : before.stop ≡ at
  pub rises : ComesAfter limit at to

-- A branch's first segment starts at the branch's stop, where a segment of the parent branch stops.
pub record IsFork (branches : List Branch) (b : ℕ) (at : Stop) (before : Segment) : Type 0 where
  pub later : 0 < b
  pub parent : before.branch ≡ parent_at branches b
  pub start : at ≡ stop_at branches b
  pub meets : before.stop ≡ stop_at branches b

-- A segment's parent is an earlier segment that isn't its branch's last, from which it goes on in its branch or forks.
pub record HasParent (branches : List Branch) (limit : ℕ) (segments : List Segment) (s branch : ℕ) (start stop : Stop) (parent : ℕ) : Type 0 where
  pub earlier : parent < s
  pub unfinished : parent < last_of branches (slice_index_or segments parent no_segment).branch
  pub joins : IsNext limit branch start stop (slice_index_or segments parent no_segment)
      ⊎ IsFork branches branch start (slice_index_or segments parent no_segment)

-- Only the root's first segment has no parent.
abbrev pub ParentIs : List Branch → ℕ → List Segment → ℕ → ℕ → Stop → Stop → Option ℕ → Type 0
ParentIs branches limit segments s branch start stop None = branch ≡ 0
ParentIs branches limit segments s branch start stop (Some q) = HasParent branches limit segments s branch start stop q

-- A segment of a plan stops within the limit and has its parent.
pub record IsPlanned (branches : List Branch) (limit : ℕ) (segments : List Segment) (s : ℕ) (g : Segment) : Type 0 where
  pub branch : g.branch < length branches
  pub within : IsWithin limit g.stop
  pub parent : ParentIs branches limit segments s g.branch g.start g.stop g.parent

-- so is each segment of a list
pub record ArePlanned (branches : List Branch) (limit : ℕ) (segments : List Segment) : Type 0 where
  pub each : (s : ℕ) → s < length segments → IsPlanned branches limit segments s (slice_index_or segments s no_segment)
