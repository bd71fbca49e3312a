-- A run of events up to a time.
use Rattle.std.specs.Prelude.{ℕ, ◌-◌, Bool, false, nat_le, if◌then◌else◌, Option, Some, None, is_some, suc, zero}
use Rattle.market_types.specs.declared.message.Message.{Message}
use Rattle.event_queue.specs.Waiting.{least}
use Rattle.market_floor.specs.declared.opening.Opening.{Opening}
use Rattle.kernel_core.specs.State.{State}
use Rattle.kernel_core.specs.Step.{end_of}
use Rattle.kernel_core.specs.Until.{Run, advanced}

-- the least waiting message is due at or before a time
abbrev pub is_due : ℕ → Option Message → Bool
is_due when None = false
is_due when (Some m) = nat_le m.time when

-- a state isn't ended, and its least waiting message is due at or before a time
abbrev pub due_by : Opening → ℕ → State → Bool
due_by o when s = if is_some (end_of o s) then false else is_due when (least s.post.waiting)

-- at most so many events more, each while one is due at or before a time
abbrev pub advanced_due : ℕ → Opening → ℕ → Run → Run
advanced_due zero o when r = r
advanced_due (suc n) o when r = if due_by o when r.state then advanced_due n o when (advanced o r) else r

-- on while fewer than so many events stand and the next is due at or before a time
abbrev pub until_time : Opening → ℕ → ℕ → Run → Run
until_time o when most r = advanced_due (most - r.state.events) o when r
