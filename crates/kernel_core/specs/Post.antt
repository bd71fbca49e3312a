-- The waiting messages with their numbers.
use Rattle.std.specs.Prelude.{◌<◌, ◌≤◌, ℕ, ◌+◌, nat_lt, if◌then◌else◌, List, [], length, All}
use Rattle.market_types.specs.Limits.{most_waiting}
use Rattle.market_types.specs.declared.message.Message.{Message}
use Rattle.event_queue.specs.Rising.{IsRising}
use Rattle.event_queue.specs.Waiting.{joined, without}

-- The waiting messages in order of their numbers, the number of the next one that joins, and how many were dropped.
pub record Post : Type 0 where
  pub waiting : List Message
  pub next_seq : ℕ
  pub dropped : ℕ

abbrev pub nothing_waits : Post
nothing_waits = record { waiting = []; next_seq = 0; dropped = 0 }

-- One message joins under the next number. Where as many wait as may, it is dropped and takes no number.
abbrev pub joins : Post → (ℕ → Message) → Post
joins p numbered =
    if nat_lt (length p.waiting) most_waiting
    then record { waiting = joined (numbered p.next_seq) p.waiting; next_seq = p.next_seq + 1; dropped = p.dropped }
    else record p { dropped = p.dropped + 1 }

-- a message has left
abbrev pub taken : Post → Message → Post
taken p m = record p { waiting = without m.seq p.waiting }

-- a message is put back to another time under its old number
abbrev pub put_back : Post → Message → ℕ → Post
put_back p m time = record p { waiting = joined (record m { time = time }) (without m.seq p.waiting) }

-- What holds of all mail: no more messages wait than may, each has a number that was given, and no two have the same.
pub record IsOrderly (p : Post) : Type 0 where
  pub few : length p.waiting ≤ most_waiting
  pub numbers : All (λ (m : Message). m.seq < p.next_seq) p.waiting
  pub rising : IsRising p.waiting
