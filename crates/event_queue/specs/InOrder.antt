-- The waiting messages in the order in which they are due.
use Rattle.std.specs.Prelude.{if◌then◌else◌, List, [], ◌∷◌}
use Rattle.market_types.specs.declared.message.Message.{Message}
use Rattle.event_queue.specs.Waiting.{before}

-- the list once a message stands before the first that is due after it
abbrev pub placed : Message → List Message → List Message
placed m [] = m ∷ []
placed m (x ∷ w) = if before m x then m ∷ (x ∷ w) else x ∷ placed m w

-- the messages by time, and at one time by sequence number
abbrev pub in_order : List Message → List Message
in_order [] = []
in_order (m ∷ w) = placed m (in_order w)
