-- Courses and a probe for worked examples.
use Rattle.std.specs.Prelude.{pos, List, [], ◌∷◌, if◌then◌else◌, All}
use Rattle.agent_shell.specs.declared.setting.TraderSetting.{TraderSetting}
use Rattle.branch_tree.specs.declared.branch.Branch.{Branch}
use Rattle.branch_tree.specs.Tree.{IsRooted}
use Rattle.market_floor.specs.declared.opening.Opening.{Opening}
use Rattle.market_floor.specs.OpeningWorked.{market, watcher}
use Rattle.kernel_copy.specs.Courses.{AreEdits}
use Rattle.probe_desk.specs.Columns.{summed, total_of}
use Rattle.probe_desk.specs.Probe.{Meaning}

abbrev pub two_watchers : List TraderSetting
two_watchers = watcher 1000 ∷ watcher 1000 ∷ []

-- a market of at most a hundred events whose exchange computes at once
abbrev pub small : Opening
small = market 2000 0 two_watchers

abbrev pub three_watchers : List TraderSetting
three_watchers = watcher 1000 ∷ watcher 1000 ∷ watcher 1003 ∷ []

-- one whose exchange computes for 3 nanoseconds, so that messages find it busy
abbrev pub busy : Opening
busy = market 2000 3 three_watchers

-- branches of a market whose edits can be made
pub record AreBranches (o : Opening) (branches : List Branch) : Type 0 where
  pub rooted : IsRooted branches
  pub edits : All (λ (b : Branch). AreEdits o b.edits) branches

-- how many records were put back
abbrev pub put_backs : Meaning
put_backs = record {
  settings = [];
  opening = pos 0 ∷ [];
  after = λ numbers r. if r.put_back then summed numbers (pos 1) else numbers;
  value = total_of;
}
