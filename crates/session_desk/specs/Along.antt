-- Runs that go on along a branch's path.
use Rattle.std.specs.Prelude.{◌≡◌, ℕ, ◌+◌, List, [], ◌∷◌, ◌++◌, if◌then◌else◌}
use Rattle.market_types.specs.Told.{EntryTold, event, edit}
use Rattle.branch_tree.specs.declared.branch.Branch.{Branch}
use Rattle.branch_tree.specs.Plan.{stop_at}
use Rattle.market_floor.specs.declared.opening.Opening.{Opening}
use Rattle.kernel_core.specs.Until.{Run, until}
use Rattle.kernel_copy.specs.Full.{edited_by}
use Rattle.rewind_desk.specs.Reach.{has_more}

-- From a run of a branch's parent, up to e events and to no more than the branch's stop: where it has one more event before
-- the stop, it is the branch's; otherwise the branch's edits are made, and it goes on until e events stand.
abbrev pub onward : Opening → List Branch → ℕ → ℕ → Run → Run
onward o branches b e r = if has_more o (stop_at branches b) r.state then r else until o e (edited_by branches b r)

-- entries begin with others
abbrev pub BeginWith : List EntryTold → List EntryTold → Type 0
BeginWith whole part = (rest : List EntryTold) × (part ++ rest ≡ whole)

-- how many of these entries are events
abbrev pub event_count : List EntryTold → ℕ
event_count [] = 0
event_count (event e ∷ entries) = event_count entries + 1
event_count (edit e ∷ entries) = event_count entries
