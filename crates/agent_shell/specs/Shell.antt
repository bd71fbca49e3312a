-- What each trader keeps of its orders, and how replies change it.
use Rattle.std.specs.Prelude.{ℕ, ℤ, pos, ◌-ℤ◌, ◌^◌, ◌≤ℤ◌, [], ◌∷◌, ◌++◌, Option, None, Some}
use Rattle.market_types.specs.declared.account.Account.{Account}
use Rattle.market_types.specs.declared.order.Side.{Side}
use Rattle.market_types.specs.declared.order.Token.{Token}
use Rattle.market_types.specs.declared.reply.Reply.{Reply}
use Rattle.market_types.specs.declared.reply.Reply.TheVariants.{System, Accepted, Canceled, Executed, Rejected}
use Rattle.agent_shell.specs.declared.shell.OwnOrder.{OwnOrder}
use Rattle.agent_shell.specs.Account.{traded}
use Rattle.agent_shell.specs.Own.{OwnList, own_order, lowered, without}

-- A trader's number, how many tokens it gave, its own account and its own list.
pub record Orders : Type 0 where
  pub agent : ℕ
  pub tokens : ℕ
  pub account : Account
  pub own : OwnList

-- These, and how many places are kept for more orders.
pub record Kept : Type 0 where
  pub orders : Orders
  pub spare : ℕ

-- at the opening
abbrev pub orders_at_opening : ℕ → ℤ → Orders
orders_at_opening agent cash = record { agent = agent; tokens = 0; account = record { position = pos 0; cash = cash }; own = [] }

-- an order joins the list as its last
abbrev pub with_order : Token → Side → ℕ → Orders → Orders
with_order token side shares s = record s { own = s.own ++ (token, record { side = side; left = shares }) ∷ [] }

-- An order that is in the list was executed: the account changes by all executed shares. One that isn't changes nothing.
abbrev pub executed : Option OwnOrder → Token → ℕ → ℕ → Orders → Orders
executed None token price shares s = s
executed (Some o) token price shares s =
    record s { account = traded o.side price shares s.account; own = lowered token shares s.own }

-- What a reply changes.
abbrev pub replied : Reply → Orders → Orders
replied (System time code) s = s
replied (Accepted time token side shares stock price tif firm display reference capacity sweep minimum cross state bbo) s = s
replied (Canceled time token decrement reason) s = record s { own = lowered token decrement s.own }
replied (Executed time token shares price flag number) s = executed (own_order token s.own) token price shares s
replied (Rejected time token reason) s = record s { own = without token s.own }

-- a number is at most so far from 0
pub record IsWithin (reach : ℕ) (n : ℤ) : Type 0 where
  pub low : (pos 0 -ℤ pos reach) ≤ℤ n
  pub high : n ≤ℤ pos reach

-- The account is far from the ends of its numbers.
pub record IsModest (a : Account) : Type 0 where
  pub position : IsWithin (2 ^ 62) a.position
  pub cash : IsWithin (2 ^ 120) a.cash
