-- Trees for worked examples.
use Rattle.std.specs.Prelude.{ℕ, List, [], ◌∷◌, Option}
use Rattle.branch_tree.specs.declared.branch.Branch.{Branch}
use Rattle.branch_tree.specs.declared.segment.Segment.{Segment}
use Rattle.branch_tree.specs.declared.stop.Stop.{Stop}
use Rattle.branch_tree.specs.declared.stop.Stop.TheVariants.{At, When}

-- a branch without edits
abbrev pub branch : ℕ → ℕ → Stop → Branch
branch letter parent stop = record { name = letter ∷ []; parent = parent; stop = stop; edits = [] }

abbrev pub root : Branch
root = branch 114 0 (At 0)

-- a branch at 6, and one of it at 6
abbrev pub nested : List Branch
nested = root ∷ (branch 120 0 (At 6) ∷ (branch 121 1 (At 6) ∷ []))

-- a branch that is its own parent
abbrev pub crossed : List Branch
crossed = root ∷ (branch 120 1 (At 6) ∷ [])

abbrev pub same_names : List Branch
same_names = root ∷ (branch 120 0 (At 6) ∷ (branch 120 1 (At 7) ∷ []))

abbrev pub segment : ℕ → Stop → Stop → Option ℕ → Segment
segment branch start stop parent = record { branch = branch; start = start; stop = stop; parent = parent }

-- a branch at a time and one at an event number
abbrev pub mixed : List Branch
mixed = root ∷ (branch 120 0 (When 1005) ∷ (branch 121 0 (At 6) ∷ []))

-- a branch at a time, and one of it at an event number that is lower than those that the time had
abbrev pub timed : List Branch
timed = root ∷ (branch 120 0 (When 1005) ∷ (branch 121 1 (At 1) ∷ []))
