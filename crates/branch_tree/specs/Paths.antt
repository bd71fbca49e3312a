-- Paths of branches.
use Rattle.std.specs.Prelude.{ℕ, ◌==◌, if◌then◌else◌, List, [], ◌∷◌, ◌++◌, suc, zero}
use Rattle.branch_tree.specs.declared.branch.Branch.{Branch}
use Rattle.branch_tree.specs.Plan.{parent_at}

-- at most so many ancestors of a branch and itself, the farthest first
abbrev pub path_within : ℕ → List Branch → ℕ → List ℕ
path_within zero branches b = b ∷ []
path_within (suc n) branches b =
    if b == 0 then b ∷ [] else path_within n branches (parent_at branches b) ++ b ∷ []

-- A branch's ancestors and itself, from the root. Each parent is an earlier branch, so there are no more ancestors
-- than the branch's number says.
abbrev pub path_of : List Branch → ℕ → List ℕ
path_of branches b = path_within b branches b
