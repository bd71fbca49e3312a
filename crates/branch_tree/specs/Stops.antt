-- Stops by event number or by time.
use Rattle.std.specs.Prelude.{◌≡◌, ◌≤◌, ℕ, Bool, true, false, nat_le}
use Rattle.branch_tree.specs.declared.stop.Stop.{Stop}
use Rattle.branch_tree.specs.declared.stop.Stop.TheVariants.{At, When}

-- the event number or the time
abbrev pub number_of : Stop → ℕ
number_of (At n) = n
number_of (When w) = w

-- whether it is a time
abbrev pub is_time : Stop → Bool
is_time (At n) = false
is_time (When w) = true

-- two stops are of one kind
abbrev pub same_kind : Stop → Stop → Bool
same_kind (At m) (At n) = true
same_kind (When v) (When w) = true
same_kind (At m) (When w) = false
same_kind (When v) (At n) = false

-- an event number is within the limit of events; a time is always
abbrev pub is_within : ℕ → Stop → Bool
is_within limit (At n) = nat_le n limit
is_within limit (When w) = true

-- a stop isn't less than another of its kind
abbrev pub no_earlier : Stop → Stop → Bool
no_earlier (At m) (At n) = nat_le m n
no_earlier (When v) (When w) = nat_le v w
no_earlier (At m) (When w) = true
no_earlier (When v) (At n) = true

-- An event number is within the limit of events; a time is always.
abbrev pub IsWithin : ℕ → Stop → Type 0
IsWithin limit (At n) = n ≤ limit
IsWithin limit (When w) = Unit {0}

-- A run that goes on from one of two stops reaches the other: one of its kind that isn't less, or the limit of events.
abbrev pub ComesAfter : ℕ → Stop → Stop → Type 0
ComesAfter limit (At m) (At n) = m ≤ n
ComesAfter limit (When v) (When w) = v ≤ w
ComesAfter limit (When v) (At n) = n ≡ limit
ComesAfter limit (At m) (When w) = ⊥
