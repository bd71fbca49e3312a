-- A run of events.
use Rattle.std.specs.Prelude.{ℕ, ◌-◌, zero, suc, List, [], ◌∷◌, ◌++◌, Option, Some, None}
use Rattle.market_types.specs.Told.{EntryTold, event}
use Rattle.market_floor.specs.declared.opening.Opening.{Opening}
use Rattle.kernel_core.specs.State.{State}
use Rattle.kernel_core.specs.Step.{Happened, step_of}

-- A state, and the entries of the trace that led to it.
pub record Run : Type 0 where
  pub state : State
  pub entries : List EntryTold

abbrev pub with_event : Run → Option Happened → Run
with_event r None = r
with_event r (Some h) = record { state = h.state; entries = r.entries ++ event h.entry ∷ [] }

-- one event more; an ended run stays as it is
unfoldable pub advanced : Opening → Run → Run
advanced o r = with_event r (step_of o r.state)

-- so many events more, or as many as come
abbrev pub advanced_by : ℕ → Opening → Run → Run
advanced_by zero o r = r
advanced_by (suc n) o r = advanced_by n o (advanced o r)

-- on until so many events stand or the state is ended
abbrev pub until : Opening → ℕ → Run → Run
until o stop r = advanced_by (stop - r.state.events) o r

-- a run with entries in front of its own
abbrev pub behind : List EntryTold → Run → Run
behind xs r = record { state = r.state; entries = xs ++ r.entries }
