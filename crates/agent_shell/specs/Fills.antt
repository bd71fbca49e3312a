-- The executions that a trader hears of, and what its account gains by them.
use Rattle.std.specs.Prelude.{ℕ, ◌*◌, ℤ, pos, ◌+ℤ◌, ◌-ℤ◌, List, [], ◌∷◌, ◌++◌, Option, None, Some}
use Rattle.market_types.specs.declared.order.Side.{Side}
use Rattle.market_types.specs.declared.order.Side.TheVariants.{Buy, Sell}
use Rattle.market_types.specs.declared.reply.Reply.{Reply}
use Rattle.market_types.specs.declared.reply.Reply.TheVariants.{System, Accepted, Canceled, Executed, Rejected}
use Rattle.agent_shell.specs.declared.shell.OwnOrder.{OwnOrder}
use Rattle.agent_shell.specs.Own.{OwnList, own_order}
use Rattle.agent_shell.specs.Shell.{Orders, replied}

-- so many shares of an order of a side were executed at a price
pub record Fill : Type 0 where
  pub side : Side
  pub price : ℕ
  pub shares : ℕ

abbrev pub fill_at : Option OwnOrder → ℕ → ℕ → List Fill
fill_at None price shares = []
fill_at (Some o) price shares = record { side = o.side; price = price; shares = shares } ∷ []

-- the execution that a reply tells of an order in the own list
abbrev pub fill_of : Reply → OwnList → List Fill
fill_of (System time code) own = []
fill_of (Accepted time token side shares stock price tif firm display reference capacity sweep minimum cross state bbo) own = []
fill_of (Canceled time token decrement reason) own = []
fill_of (Executed time token shares price flag number) own = fill_at (own_order token own) price shares
fill_of (Rejected time token reason) own = []

-- where a trader stands after replies, one after another
abbrev pub after_replies : List Reply → Orders → Orders
after_replies [] o = o
after_replies (r ∷ rs) o = after_replies rs (replied r o)

-- the executions that replies tell, each of an order that is in the own list when it comes
abbrev pub fills_of : List Reply → Orders → List Fill
fills_of [] o = []
fills_of (r ∷ rs) o = fill_of r o.own ++ fills_of rs (replied r o)

-- what is added where one buys, and taken away where one sells
abbrev pub signed : Side → ℕ → ℤ
signed Buy n = pos n
signed Sell n = pos 0 -ℤ pos n

-- the shares bought less those sold
abbrev pub net_shares : List Fill → ℤ
net_shares [] = pos 0
net_shares (f ∷ fs) = signed f.side f.shares +ℤ net_shares fs

-- what was paid less what was earned, in millionths of a dollar
abbrev pub net_paid : List Fill → ℤ
net_paid [] = pos 0
net_paid (f ∷ fs) = signed f.side (100 * f.price * f.shares) +ℤ net_paid fs
