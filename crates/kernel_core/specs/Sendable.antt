-- What the calls that send need, and what the mail keeps.
use Rattle.std.specs.Prelude.{◌<◌, ◌≤◌, ℕ, ◌+◌, length, All}
use Rattle.market_types.specs.Limits.{most_waiting}
use Rattle.market_types.specs.Room.{Room}
use Rattle.market_types.specs.declared.message.Message.{Message}
use Rattle.latency_model.specs.Tables.{Tables, group_count}
use Rattle.market_floor.specs.declared.opening.Opening.{Opening}
use Rattle.market_floor.specs.Groups.{group_of}

-- each agent's group is one of the tables'
abbrev pub IsGrouped : Opening → Tables → Type 0
IsGrouped o groups = (agent : ℕ) → agent ≤ length o.traders → group_of o agent < group_count groups

-- The queue has room for all that may wait and no more wait, and each number was given.
pub record IsMail (queue : Room Message) (next_seq : ℕ) : Type 0 where
  pub room : most_waiting ≤ length queue.list + queue.spare
  pub few : length queue.list ≤ most_waiting
  pub numbers : All (λ (m : Message). m.seq < next_seq) queue.list
