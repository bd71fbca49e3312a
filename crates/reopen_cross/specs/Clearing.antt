-- What a crossing price and its certificate show.
use Rattle.std.specs.Prelude.{◌≡◌, ◌≤◌, ◌<◌, ℕ, ◌+◌, List, sum_by}
use Rattle.market_types.specs.declared.order.Side.TheVariants.{Buy, Sell}
use Rattle.market_types.specs.Limits.{highest_price}
use Rattle.reopen_cross.specs.declared.cross.Interest.{Interest}
use Rattle.reopen_cross.specs.declared.cross.Cross.{Cross}
use Rattle.reopen_cross.specs.Cross.{buys, sells, executed}
use Rattle.reopen_cross.specs.Parts.{parts_on}

pub record IsClearing (list : List Interest) (c : Cross) : Type 0 where
  -- no price executes more shares than the one that is chosen
  pub most : (p : ℕ) → 1 ≤ p → p ≤ highest_price → executed list p ≤ c.shares
  pub here : executed list c.price ≡ c.shares
  -- the certificate: up to the cut no price executes more than what is to be sold up to there, beyond it none more than what is
  -- to be bought beyond, and both are at most what trades
  pub cut : c.cut ≤ highest_price
  pub greatest : (n : ℕ) → n ≤ highest_price → sells list n ≤ c.shares → n ≤ c.cut
  pub below_is : c.below ≡ sells list c.cut
  pub above_is : c.above ≡ buys list (c.cut + 1)
  pub below : c.below ≤ c.shares
  pub above : c.above ≤ c.shares
  pub up_to : (p : ℕ) → p ≤ c.cut → executed list p ≤ c.below
  pub beyond : (p : ℕ) → c.cut < p → executed list p ≤ c.above
  -- each side trades what trades
  pub bought : sum_by (λ x. x.shares) (parts_on Buy list c) ≡ c.shares
  pub sold : sum_by (λ x. x.shares) (parts_on Sell list c) ≡ c.shares
