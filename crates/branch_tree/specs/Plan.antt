-- The branches of a study as plain data.
use Rattle.std.specs.Prelude.{ℕ, List, [], slice_index_or}
use Rattle.branch_tree.specs.declared.branch.Branch.{Branch}
use Rattle.branch_tree.specs.declared.stop.Stop.{Stop}
use Rattle.branch_tree.specs.declared.stop.Stop.TheVariants.{At}

-- The branches, the root first, and the most events of a run.
pub record Plan : Type 0 where
  pub branches : List Branch
  pub limit : ℕ

-- the data of no branch
abbrev pub no_branch : Branch
no_branch = record { name = []; parent = 0; stop = At 0; edits = [] }

-- a branch by its number
abbrev pub branch_at : List Branch → ℕ → Branch
branch_at branches b = slice_index_or branches b no_branch

-- the number of the branch that a branch leaves
abbrev pub parent_at : List Branch → ℕ → ℕ
parent_at branches b = (branch_at branches b).parent

-- the stop at which a branch leaves it
abbrev pub stop_at : List Branch → ℕ → Stop
stop_at branches b = (branch_at branches b).stop
