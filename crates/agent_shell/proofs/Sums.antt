-- The own account is the sum over executed replies.
use Rattle.std.proofs.Common.{◌≡◌, ◌*◌, ℕ, List, [], ◌∷◌, ◌++◌, arith, Option, Some, None, ℤ, pos}
use Rattle.std.specs.Prelude.{◌+ℤ◌, ◌-ℤ◌}
use Rattle.std.proofs.lemmas.Int.{ints}
use Rattle.market_types.specs.declared.order.Side.{Side}
use Rattle.market_types.specs.declared.order.Side.TheVariants.{Buy, Sell}
use Rattle.market_types.specs.declared.order.Token.{Token}
use Rattle.market_types.specs.declared.reply.Reply.{Reply}
use Rattle.market_types.specs.declared.reply.Reply.TheVariants.{System, Accepted, Canceled, Executed, Rejected}
use Rattle.agent_shell.specs.declared.shell.OwnOrder.{OwnOrder}
use Rattle.agent_shell.specs.Account.{traded}
use Rattle.agent_shell.specs.Fills.{Fill, after_replies, fill_at, fill_of, fills_of, net_paid, net_shares, signed}
use Rattle.agent_shell.specs.Own.{own_order}
use Rattle.agent_shell.specs.Shell.{Orders, executed, replied}

shares-append : (fs gs : List Fill) → net_shares (fs ++ gs) ≡ net_shares fs +ℤ net_shares gs
shares-append [] gs = omega (arith, ints)
shares-append (f ∷ fs) gs = omega (arith, ints, shares-append fs gs)

paid-append : (fs gs : List Fill) → net_paid (fs ++ gs) ≡ net_paid fs +ℤ net_paid gs
paid-append [] gs = omega (arith, ints)
paid-append (f ∷ fs) gs = omega (arith, ints, paid-append fs gs)

shares-at : (r : Option OwnOrder) (token : Token) (price shares : ℕ) (o : Orders)
    → (executed r token price shares o).account.position ≡ o.account.position +ℤ net_shares (fill_at r price shares)
shares-at None token price shares o = omega (arith, ints)
shares-at (Some r) token price shares o = by r.side
  where
    by : (side : Side) → (traded side price shares o.account).position ≡ o.account.position +ℤ (signed side shares +ℤ pos 0)
    by Buy = omega (arith, ints)
    by Sell = omega (arith, ints)

lost : (cash : ℤ) (n : ℕ) → cash -ℤ pos n ≡ cash -ℤ (pos n +ℤ pos 0)
lost cash n = omega (arith, ints)

gained : (cash : ℤ) (n : ℕ) → cash +ℤ pos n ≡ cash -ℤ ((pos 0 -ℤ pos n) +ℤ pos 0)
gained cash n = omega (arith, ints)

paid-at : (r : Option OwnOrder) (token : Token) (price shares : ℕ) (o : Orders)
    → (executed r token price shares o).account.cash ≡ o.account.cash -ℤ net_paid (fill_at r price shares)
paid-at None token price shares o = omega (arith, ints)
paid-at (Some r) token price shares o = by r.side
  where
    by : (side : Side) → (traded side price shares o.account).cash ≡ o.account.cash -ℤ (signed side (100 * price * shares) +ℤ pos 0)
    by Buy = lost o.account.cash (100 * price * shares)
    by Sell = gained o.account.cash (100 * price * shares)

shares-step : (r : Reply) (o : Orders) → (replied r o).account.position ≡ o.account.position +ℤ net_shares (fill_of r o.own)
shares-step (System time code) o = omega (arith, ints)
shares-step (Accepted time token side shares stock price tif firm display reference capacity sweep minimum cross state bbo) o = omega (arith, ints)
shares-step (Canceled time token decrement reason) o = omega (arith, ints)
shares-step (Executed time token shares price flag number) o = shares-at (own_order token o.own) token price shares o
shares-step (Rejected time token reason) o = omega (arith, ints)

paid-step : (r : Reply) (o : Orders) → (replied r o).account.cash ≡ o.account.cash -ℤ net_paid (fill_of r o.own)
paid-step (System time code) o = omega (arith, ints)
paid-step (Accepted time token side shares stock price tif firm display reference capacity sweep minimum cross state bbo) o = omega (arith, ints)
paid-step (Canceled time token decrement reason) o = omega (arith, ints)
paid-step (Executed time token shares price flag number) o = paid-at (own_order token o.own) token price shares o
paid-step (Rejected time token reason) o = omega (arith, ints)

pub shares-sum : (rs : List Reply) (o : Orders) → (after_replies rs o).account.position ≡ o.account.position +ℤ net_shares (fills_of rs o)
shares-sum [] o = omega (arith, ints)
shares-sum (r ∷ rs) o =
    let step = shares-step r o in
    let rest = shares-sum rs (replied r o) in
    omega (arith, ints, step, rest, shares-append (fill_of r o.own) (fills_of rs (replied r o)))

pub paid-sum : (rs : List Reply) (o : Orders) → (after_replies rs o).account.cash ≡ o.account.cash -ℤ net_paid (fills_of rs o)
paid-sum [] o = omega (arith, ints)
paid-sum (r ∷ rs) o =
    let step = paid-step r o in
    let rest = paid-sum rs (replied r o) in
    omega (arith, ints, step, rest, paid-append (fill_of r o.own) (fills_of rs (replied r o)))
