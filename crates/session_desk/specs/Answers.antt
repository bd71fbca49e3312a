-- Why acts and answers are refused.
use Rattle.std.specs.Prelude.{ℕ, nat_le, nat_lt, if◌then◌else◌, Option, None, Some, ◌++◌, ◌∷◌, [], length}
use Rattle.branch_tree.specs.declared.branch.Branch.{Branch}
use Rattle.branch_tree.specs.declared.error.PlanError.{PlanError}
use Rattle.branch_tree.specs.Tree.{plan_refusal}
use Rattle.session_desk.specs.declared.error.SessionError.{SessionError}
use Rattle.session_desk.specs.declared.error.SessionError.TheVariants.{NoBranch, NoEvent}
use Rattle.session_desk.specs.Session.{SessionTold, last_event_in}

-- why the tree with a branch more is none
abbrev pub fork_refusal : SessionTold → Branch → Option PlanError
fork_refusal s b = plan_refusal (s.branches ++ b ∷ []) s.course.opening.limit

-- the branch isn't in the tree
abbrev pub branch_refusal : SessionTold → ℕ → Option SessionError
branch_refusal s b = if nat_le (length s.branches) b then Some NoBranch else None

-- it isn't; or else the event is past the last of its full run
abbrev pub state_refusal : SessionTold → ℕ → ℕ → Option SessionError
state_refusal s b e =
    if nat_le (length s.branches) b then Some NoBranch
    else if nat_lt (last_event_in s b) e then Some (NoEvent (last_event_in s b))
    else None
