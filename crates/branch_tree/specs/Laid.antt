-- What a plan keeps of its branches.
use Rattle.std.specs.Prelude.{◌≡◌, ◌<◌, ◌^◌, ℕ, List, [], None, length, slice_index_or}
use Rattle.branch_tree.specs.declared.segment.Segment.{Segment}
use Rattle.branch_tree.specs.Plan.{Plan}
use Rattle.branch_tree.specs.Tree.{IsRooted, plan_refusal}
use Rattle.branch_tree.specs.Segments.{segments_in, numbers_of, children_of}

-- The branches are a tree, and the lists beside them are what they say.
pub record IsLaid (p : Plan) (parts : List Segment) (counts forks : List (List ℕ)) : Type 0 where
  pub rooted : IsRooted p.branches
  pub accepted : plan_refusal p.branches p.limit ≡ None
  pub segments : parts ≡ segments_in p
  pub few : length (segments_in p) < 2 ^ 32
  pub number_count : length counts ≡ length p.branches
  pub numbers : (b : ℕ) → b < length p.branches → slice_index_or counts b [] ≡ numbers_of p b
  pub child_count : length forks ≡ length (segments_in p)
  pub children : (s : ℕ) → s < length (segments_in p) → slice_index_or forks s [] ≡ children_of p s
