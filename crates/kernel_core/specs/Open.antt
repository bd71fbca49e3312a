-- The state before the first event.
use Rattle.std.specs.Prelude.{ℕ, ◌+◌, List, [], ◌∷◌, length, replicate}
use Rattle.agent_shell.specs.declared.setting.TraderSetting.{TraderSetting}
use Rattle.market_floor.specs.declared.opening.Opening.{Opening}
use Rattle.market_floor.specs.declared.posting.Posting.TheVariants.{WakeAt}
use Rattle.kernel_core.specs.Post.{Post, nothing_waits}
use Rattle.kernel_core.specs.Send.{sent}
use Rattle.market_floor.specs.Floor.{floor_at_opening}
use Rattle.kernel_core.specs.State.{State}

-- Each trader of a list, the first of which is this agent, has a wakeup at its first time.
abbrev pub woken : Opening → ℕ → Post → List TraderSetting → Post
woken o agent p [] = p
woken o agent p (s ∷ ss) = woken o (agent + 1) (sent o o.groups agent o.start p (WakeAt s.first)) ss

-- No event stands, no dated change was applied, each agent's own time is the start, and each trader waits for its first
-- wakeup.
abbrev pub opened : Opening → State
opened o = record {
  time = o.start;
  events = 0;
  applied = 0;
  post = woken o 1 nothing_waits o.traders;
  own = replicate (length o.traders + 1) o.start;
  floor = floor_at_opening o;
  groups = o.groups;
}
