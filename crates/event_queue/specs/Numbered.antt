-- A list of messages in any order, seen in order of number.
use Rattle.std.specs.Prelude.{◌≤◌, ℕ, ◌+◌, ◌==◌, if◌then◌else◌, List, [], ◌∷◌}
use Rattle.market_types.specs.declared.message.Message.{Message}
use Rattle.event_queue.specs.Waiting.{joined}

-- the messages in order of number
abbrev pub by_number : List Message → List Message
by_number [] = []
by_number (m ∷ w) = joined m (by_number w)

-- how many messages have a number
abbrev pub count_of : ℕ → List Message → ℕ
count_of n [] = 0
count_of n (m ∷ w) = (if m.seq == n then 1 else 0) + count_of n w

-- no number stands twice
abbrev pub IsApart : List Message → Type 0
IsApart w = (n : ℕ) → count_of n w ≤ 1
