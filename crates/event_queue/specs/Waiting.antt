-- The waiting messages as one list, in order of their sequence numbers.
use Rattle.std.specs.Prelude.{◌≢◌, ◌==◌, ℕ, Bool, not, ◌&&◌, ◌||◌, nat_lt, if◌then◌else◌, List, [], ◌∷◌, Option, Some, None, filter, All}
use Rattle.std.specs.List.{best_of}
use Rattle.market_types.specs.declared.message.Message.{Message}

-- whether a is due before b: by its time, and at one time by its number
abbrev pub before : Message → Message → Bool
before a b = nat_lt a.time b.time || ((a.time == b.time) && nat_lt a.seq b.seq)

-- the message that is due before all others
abbrev pub least : List Message → Option Message
least [] = None
least (m ∷ w) = Some (best_of before m w)

-- no message of the list has this number
abbrev pub IsNew : ℕ → List Message → Type 0
IsNew n w = All (λ m. m.seq ≢ n) w

-- the list once a message has joined, which stands before the first with a greater number
abbrev pub joined : Message → List Message → List Message
joined m [] = m ∷ []
joined m (x ∷ w) = if nat_lt m.seq x.seq then m ∷ (x ∷ w) else x ∷ joined m w

-- the list once the message with this number has left
abbrev pub without : ℕ → List Message → List Message
without n w = filter (λ m. not (m.seq == n)) w
