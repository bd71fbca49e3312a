-- Why a rewind is refused.
use Rattle.std.specs.Prelude.{ℕ, nat_le, nat_lt, if◌then◌else◌, Option, None, Some, length}
use Rattle.kernel_copy.specs.Courses.{CourseTold}
use Rattle.kernel_copy.specs.Full.{full_run}
use Rattle.rewind_desk.specs.declared.desk.RewindError.{RewindError}
use Rattle.rewind_desk.specs.declared.desk.RewindError.TheVariants.{NoBranch, NoEvent}

-- the number of the last event of a branch's full run
abbrev pub last_event : CourseTold → ℕ → ℕ
last_event c b = (full_run c.opening c.plan b).state.events

-- the branch isn't in the plan; or else the event is past the last of its full run
abbrev pub rewind_refusal : CourseTold → ℕ → ℕ → Option RewindError
rewind_refusal c b e =
    if nat_le (length c.plan.branches) b then Some NoBranch
    else if nat_lt (last_event c b) e then Some (NoEvent (last_event c b))
    else None
