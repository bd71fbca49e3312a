-- Examples: small plans of at most a hundred events, a root with a branch that leaves it at event 2, and one with a branch that
-- leaves it at a time; and a market of two watchers, from which branches leave.
use Rattle.std.specs.Prelude.{ℕ, List, [], ◌∷◌, All}
use Rattle.agent_shell.specs.declared.setting.TraderSetting.{TraderSetting}
use Rattle.branch_tree.specs.declared.branch.Branch.{Branch}
use Rattle.branch_tree.specs.declared.stop.Stop.{Stop}
use Rattle.branch_tree.specs.declared.stop.Stop.TheVariants.{At, When}
use Rattle.branch_tree.specs.Plan.{Plan}
use Rattle.branch_tree.specs.Tree.{IsRooted}
use Rattle.market_floor.specs.declared.opening.Opening.{Opening}
use Rattle.market_floor.specs.OpeningWorked.{market, watcher}
use Rattle.kernel_copy.specs.Courses.{AreEdits}

abbrev pub branch : ℕ → Stop → Branch
branch parent stop = record { name = []; parent = parent; stop = stop; edits = [] }

abbrev pub forked_once : Plan
forked_once = record { branches = branch 0 (At 0) ∷ branch 0 (At 2) ∷ []; limit = 100 }

abbrev pub forked_at_time : Plan
forked_at_time = record { branches = branch 0 (At 0) ∷ branch 0 (When 1005) ∷ []; limit = 100 }

abbrev pub two_watchers : List TraderSetting
two_watchers = watcher 1000 ∷ watcher 1000 ∷ []

abbrev pub small : Opening
small = market 2000 0 two_watchers

-- branches of the small market whose edits can be made
pub record AreBranches (branches : List Branch) : Type 0 where
  pub rooted : IsRooted branches
  pub edits : All (λ (b : Branch). AreEdits small b.edits) branches
