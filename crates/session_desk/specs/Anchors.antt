-- How far a branch's path is still the study's own, and so which kept states serve it.
use Rattle.std.specs.Prelude.{ℕ, Bool, List, [], ◌∷◌, Option, None, Some, if◌then◌else◌, min}
use Rattle.branch_tree.specs.declared.branch.Branch.{Branch}
use Rattle.branch_tree.specs.Plan.{stop_at}
use Rattle.branch_tree.specs.Stops.{number_of}
use Rattle.branch_tree.specs.Paths.{path_of}
use Rattle.session_desk.specs.Session.{SessionTold, is_own}

-- the last of these branches before the first that isn't own; this one where there is none before
abbrev pub last_own : (ℕ → Bool) → ℕ → List ℕ → ℕ
last_own own before [] = before
last_own own before (b ∷ bs) = if own b then last_own own b bs else before

-- the first of these branches that isn't own
abbrev pub first_other : (ℕ → Bool) → List ℕ → Option ℕ
first_other own [] = None
first_other own (b ∷ bs) = if own b then first_other own bs else Some b

-- A branch's anchor: the last branch of its path such that it and all before it are still the study's own. The root is one.
abbrev pub anchor_of : SessionTold → ℕ → ℕ
anchor_of s b = last_own (is_own s) 0 (path_of s.branches b)

-- the branch that follows the anchor on the path; none where the branch is its own anchor
abbrev pub follower_of : SessionTold → ℕ → Option ℕ
follower_of s b = first_other (is_own s) (path_of s.branches b)

-- a count of events, or the stop of a branch where that is less
abbrev pub up_to : List Branch → ℕ → Option ℕ → ℕ
up_to branches count None = count
up_to branches count (Some c) = min count (number_of (stop_at branches c))

-- How many of so many events of a branch's run it has in common with its anchor's: all, or where another branch follows the
-- anchor on the path, those up to its stop.
abbrev pub shared_count : SessionTold → ℕ → ℕ → ℕ
shared_count s b count = up_to s.branches count (follower_of s b)
