-- What a run keeps of the mail.
use Rattle.std.specs.Prelude.{◌≤◌, ℕ, ◌+◌, length, All}
use Rattle.market_types.specs.declared.message.Message.{Message}
use Rattle.market_floor.specs.Postings.{IsAmong}
use Rattle.kernel_core.specs.Post.{IsOrderly, Post}

-- What holds of the mail between so many traders in so many stocks at a time, after so many events: each message is one
-- that an agent may send, none is due before that time, and each number that was given waits or left in an event.
pub record IsSoundMail (traders stocks time events : ℕ) (p : Post) : Type 0 where
  pub orderly : IsOrderly p
  pub among : All (λ (m : Message). IsAmong traders stocks m) p.waiting
  pub due : All (λ (m : Message). time ≤ m.time) p.waiting
  pub numbers : p.next_seq ≤ length p.waiting + events
