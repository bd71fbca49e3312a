-- A session: a tree of branches that acts change, over the course of a study that was run.
use Rattle.std.specs.Prelude.{◌≡◌, ◌<◌, ℕ, Bool, true, false, List, All, length, replicate, slice_index_or}
use Rattle.branch_tree.specs.declared.branch.Branch.{Branch}
use Rattle.branch_tree.specs.Plan.{Plan, branch_at}
use Rattle.branch_tree.specs.Stops.{is_time}
use Rattle.market_floor.specs.declared.opening.Opening.{Opening}
use Rattle.kernel_core.specs.Until.{Run}
use Rattle.kernel_copy.specs.Courses.{CourseTold, IsCourse}
use Rattle.kernel_copy.specs.Full.{full}

-- The study's course, the branches of the tree as it stands, and whether each of them is still the study's own: no act forked
-- it, and none edited or undid it since.
pub record SessionTold : Type 0 where
  pub course : CourseTold
  pub branches : List Branch
  pub own : List Bool

-- the tree as it stands, under the study's limit of events
abbrev pub tree_of : SessionTold → Plan
tree_of s = record { branches = s.branches; limit = s.course.opening.limit }

-- the course that the tree makes with the study's opening
abbrev pub standing : SessionTold → CourseTold
standing s = record { opening = s.course.opening; plan = tree_of s }

-- A branch's full run over a tree, up to e events with the edits at e included. It goes from the opening, and knows nothing of
-- the acts that led to the tree nor of any state that was kept.
abbrev pub full_over : Opening → List Branch → ℕ → ℕ → Run
full_over o tree b e = full o (record { branches = tree; limit = o.limit }) b e

-- over the tree as it stands
abbrev pub full_in : SessionTold → ℕ → ℕ → Run
full_in s b e = full_over s.course.opening s.branches b e

-- the whole of it
abbrev pub full_run_in : SessionTold → ℕ → Run
full_run_in s b = full_in s b s.course.opening.limit

-- the number of its last event
abbrev pub last_event_in : SessionTold → ℕ → ℕ
last_event_in s b = (full_run_in s b).state.events

-- before the first act: the study's tree, all its own
abbrev pub first_session : CourseTold → SessionTold
first_session c = record { course = c; branches = c.plan.branches; own = replicate (length c.plan.branches) true }

-- a branch is still the study's own
abbrev pub is_own : SessionTold → ℕ → Bool
is_own s b = slice_index_or s.own b false

-- the study has this branch as it stands in the tree
pub record IsStudys (s : SessionTold) (b : ℕ) : Type 0 where
  pub there : b < length s.course.plan.branches
  pub same : branch_at s.branches b ≡ branch_at s.course.plan.branches b

-- The tree makes a course with the study's opening, its branches fork by event number, and those that are still the study's
-- own stand in it as in the study; the root is always one of them.
pub record IsSession (s : SessionTold) : Type 0 where
  pub study : IsCourse s.course
  pub tree : IsCourse (standing s)
  pub numbers : All (λ (b : Branch). is_time b.stop ≡ false) s.branches
  pub count : length s.own ≡ length s.branches
  pub root : is_own s 0 ≡ true
  pub own : (b : ℕ) → is_own s b ≡ true → IsStudys s b
