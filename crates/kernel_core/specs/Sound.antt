-- What holds of every state that a kernel keeps.
use Rattle.std.specs.Prelude.{◌≡◌, ◌≤◌, ◌+◌, length}
use Rattle.market_types.specs.Limits.{last_time, most_events}
use Rattle.kernel_core.specs.SoundMail.{IsSoundMail}
use Rattle.market_floor.specs.Sound.{IsSoundFloor}
use Rattle.kernel_core.specs.State.{State}

-- The mail is between the agents on the floor and none of it is due before the state's time; no count of the floor is higher
-- than so many events can make it.
pub record IsSound (s : State) : Type 0 where
  pub agents : length s.own ≡ length s.floor.parties + 1
  pub mail : IsSoundMail (length s.floor.parties) (length s.floor.exchange.stocks) s.time s.events s.post
  pub floor : IsSoundFloor s.events s.floor
  pub time : s.time ≤ last_time
  pub events : s.events ≤ most_events
