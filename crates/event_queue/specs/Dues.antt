-- The heaps' keys, and the slots in which their messages stay.
use Rattle.std.specs.Prelude.{◌≡◌, ◌+◌, ◌==◌, ℕ, Bool, true, false, nat_lt, if◌then◌else◌, List, [], ◌∷◌, length, map, slice_index_or}
use Rattle.std.specs.BinaryHeap.{IsUpperBound}
use Rattle.std.specs.List.Sorted.{IsPermutation}
use Rattle.market_types.specs.declared.message.Message.{Message}
use Rattle.market_types.specs.declared.message.Body.{Body}
use Rattle.market_types.specs.declared.message.Body.TheVariants.{Wake, Order, Answer, Ask, Quote}
use Rattle.event_queue.specs.Keys.{Due, by_due}

-- the first of some keys is due before none of the others, or there are no keys at all
abbrev pub IsAhead : List Due → List Due → Type 0
IsAhead [] others = others ≡ []
IsAhead (d ∷ _) others = IsUpperBound by_due d others

-- a key is one of some keys, and none of the rest is due before it
pub record IsFirst (ds : List Due) (d : Due) : Type 0 where
  pub rest : List Due
  pub split : IsPermutation ds (d ∷ rest)
  pub first : IsUpperBound by_due d rest

-- the first of some keys gave way to another key
pub record IsMoved (old new : List Due) (d e : Due) : Type 0 where
  pub rest : List Due
  pub split : IsPermutation old (d ∷ rest)
  pub first : IsUpperBound by_due d rest
  pub moved : IsPermutation (e ∷ rest) new

-- what stands where there is no slot
abbrev pub vacant : Message
vacant = record { time = 0; seq = 0; from = 0; to = 0; body = Wake }

-- the message of a key
abbrev pub message_at : List Message → Due → Message
message_at slots d = slice_index_or slots d.slot vacant

-- whether a message is a wakeup
abbrev pub is_wake : Body → Bool
is_wake Wake = true
is_wake (Order _) = false
is_wake (Answer _) = false
is_wake (Ask _) = false
is_wake (Quote _) = false

-- whether the message of a slot is one
abbrev pub wakes : List Message → ℕ → Bool
wakes slots n = is_wake (slice_index_or slots n vacant).body

-- the messages of some keys
abbrev pub held : List Message → List Due → List Message
held slots ds = map (λ (d : Due). message_at slots d) ds

-- a key has the time and the number of its message
abbrev pub IsTold : List Message → Due → Type 0
IsTold slots d = ((message_at slots d).time ≡ d.time) × ((message_at slots d).seq ≡ d.seq)

-- how many of the keys name a slot
abbrev pub times_held : ℕ → List Due → ℕ
times_held n [] = 0
times_held n (d ∷ ds) = (if d.slot == n then 1 else 0) + times_held n ds

-- how often a slot is listed as free
abbrev pub times_free : ℕ → List ℕ → ℕ
times_free n [] = 0
times_free n (k ∷ ks) = (if k == n then 1 else 0) + times_free n ks

-- each slot is free once or one key names it, and there are no others
abbrev pub IsSharedOut : List Message → List ℕ → List Due → Type 0
IsSharedOut slots free ds = (n : ℕ) → times_held n ds + times_free n free ≡ (if nat_lt n (length slots) then 1 else 0)
