-- How the orders that a decision calls for are sent.
use Rattle.std.specs.Prelude.{ℕ, ◌+◌, nat_lt, ℤ, pos, negsuc, if◌then◌else◌, List, [], ◌∷◌, ◌++◌, length, Option, None, Some, codes}
use Rattle.std.specs.Int.{is_in_range}
use Rattle.market_types.specs.Limits.{highest_price}
use Rattle.market_types.specs.declared.message.Body.TheVariants.{Order}
use Rattle.market_types.specs.declared.order.Enter.{Enter}
use Rattle.market_types.specs.declared.order.Inbound.TheVariants.{Enter as NewOrder}
use Rattle.market_types.specs.declared.order.Symbol.{Symbol}
use Rattle.market_types.specs.declared.order.Token.{Token}
use Rattle.agent_shell.specs.declared.sending.Sending.{Sending}
use Rattle.agent_shell.specs.declared.sending.Sending.TheVariants.{To}
use Rattle.agent_shell.specs.declared.wish.Wish.{Wish}
use Rattle.agent_shell.specs.Own.{most_own}
use Rattle.agent_shell.specs.Shell.{Orders, with_order}
use Rattle.agent_shell.specs.Tokens.{token_of}

-- the price at which an order is sent, where it is one
abbrev pub sent_price : ℤ → Option ℕ
sent_price (pos price) = if is_in_range 1 highest_price price then Some price else None
sent_price (negsuc n) = None

-- the order that is sent: firm `ABID`, display `Y`, capacity `P`, sweep `N`, minimum 0, cross `N`, customer `N`
abbrev pub enter_of : Symbol → Token → Wish → ℕ → Enter
enter_of symbol token w price = record {
  token = token;
  side = w.side;
  shares = w.shares;
  stock = symbol;
  price = price;
  tif = w.tif;
  firm = codes "ABID";
  display = 89;
  capacity = 80;
  sweep = 78;
  minimum = 0;
  cross = 78;
  customer = 78;
}

-- What orders change, and what is sent for them.
pub record Ordered : Type 0 where
  pub orders : Orders
  pub sends : List Sending

-- an order is sent under the next token, and joins the own list with its shares as open
abbrev pub sent : Symbol → Wish → ℕ → Orders → Ordered
sent symbol w price o =
    let token = token_of o.agent (o.tokens + 1) in
    record {
      orders = with_order token w.side w.shares (record o { tokens = o.tokens + 1 });
      sends = To (Order (NewOrder (enter_of symbol token w price))) w.extra ∷ [];
    }

-- an order is left out and takes no token
abbrev pub left_out : Orders → Ordered
left_out o = record { orders = o; sends = [] }

abbrev pub sent_at : Option ℕ → Symbol → Wish → Orders → Ordered
sent_at None symbol w o = left_out o
sent_at (Some price) symbol w o = sent symbol w price o

-- An order is sent where its price is from 1 to 1,999,999,900 and the own list has fewer than 64 orders.
abbrev pub ordered : Symbol → Wish → Orders → Ordered
ordered symbol w o = if nat_lt (length o.own) most_own then sent_at (sent_price w.price) symbol w o else left_out o

-- one after another
abbrev pub then_ordered : Ordered → Ordered → Ordered
then_ordered first rest = record { orders = rest.orders; sends = first.sends ++ rest.sends }

-- the orders of a list in turn
abbrev pub all_ordered : Symbol → List Wish → Orders → Ordered
all_ordered symbol [] o = left_out o
all_ordered symbol (w ∷ ws) o = then_ordered (ordered symbol w o) (all_ordered symbol ws (ordered symbol w o).orders)
