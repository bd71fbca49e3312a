-- A trader's own list of its open orders: pairs of a token and an order, the first sent first.
use Rattle.std.specs.Prelude.{ℕ, ◌-◌, nat_le, Bool, if◌then◌else◌, bytes_eq, List, [], ◌∷◌, Option}
use Rattle.std.specs.Map.{lookup, remove_entry}
use Rattle.market_types.specs.declared.order.Token.{Token}
use Rattle.agent_shell.specs.declared.shell.OwnOrder.{OwnOrder}

abbrev pub OwnList : Type 0
OwnList = List (Token × OwnOrder)

-- an own list has at most so many orders
abbrev pub most_own : ℕ
most_own = 64

-- the two tokens have the same bytes
abbrev pub same_token : Token → Token → Bool
same_token a b = bytes_eq a.0 b.0

-- the order of a token
abbrev pub own_order : Token → OwnList → Option OwnOrder
own_order token own = lookup (same_token token) own

-- the list without the order of a token
abbrev pub without : Token → OwnList → OwnList
without token own = remove_entry (same_token token) own

-- The open shares of the order of a token fall by so many, to 0 at least; at 0 it is removed.
abbrev pub lowered : Token → ℕ → OwnList → OwnList
lowered token shares [] = []
lowered token shares (e ∷ own) =
    if same_token token e.0
    then (if nat_le e.1.left shares then own else (e.0, record e.1 { left = e.1.left - shares }) ∷ own)
    else e ∷ lowered token shares own
