-- The segments that a worker claims, and those that it pushes on its lane.
use Rattle.std.specs.Prelude.{ℕ, ◌<◌, ◌≤◌, All, List, Option, None, Some, length}
use Rattle.branch_tree.specs.Plan.{Plan}
use Rattle.branch_tree.specs.Segments.{segments_in, segment_at}
use Rattle.shelf_core.specs.Views.{times}

-- Segments of a plan, each at most once.
pub record AreClaims (p : Plan) (claims : List ℕ) : Type 0 where
  pub below : All (λ s. s < length (segments_in p)) claims
  pub once : (s : ℕ) → times s claims ≤ 1

-- how often a segment may stand on the lane of a worker with these claims: the root's first once, any other as often as
-- its parent was claimed
abbrev pub pushes : Option ℕ → List ℕ → ℕ
pushes None claims = 1
pushes (Some q) claims = times q claims

-- What a worker with these claims pushed on its lane: segments of the plan that go on from what it claimed.
pub record HasPushed (p : Plan) (claims pushed : List ℕ) : Type 0 where
  pub below : All (λ s. s < length (segments_in p)) pushed
  pub few : (s : ℕ) → s < length (segments_in p) → times s pushed ≤ pushes (segment_at p s).parent claims
