-- Where a trader is after so many messages.
use Rattle.std.proofs.Common.{ℕ, ◌+◌, ◌*◌, ◌≤◌, ◌^◌, arith, ℤ}
use Rattle.std.proofs.lemmas.Int.{ints}
use Rattle.market_rules.specs.declared.edit.Param.{Param}
use Rattle.agent_shell.specs.Bounds.{IsAfter, IsMoved, IsNear}
use Rattle.agent_shell.specs.Shell.{IsModest, IsWithin}
use Rattle.agent_shell.specs.Trader.{IsReady, Trader, trader_with}

within-near : (reach most : ℕ) (a b : ℤ) → IsWithin reach a → IsNear most a b → IsWithin (reach + most) b
within-near reach most a b is near = record {
  low = omega (arith, ints, is.low, near.down);
  high = omega (arith, ints, is.high, near.up);
}

within-far : (small large : ℕ) (a : ℤ) → small ≤ large → IsWithin small a → IsWithin large a
within-far small large a le is = record { low = omega (arith, ints, is.low); high = omega (arith, ints, is.high) }

pub after-step : (n : ℕ) (a b : Trader) → IsAfter n a → IsMoved a b → IsAfter (n + 1) b
after-step n a b is moved = record {
  tokens = omega (arith, is.tokens, moved.tokens);
  draws = omega (arith, is.draws, moved.draws);
  quotes = omega (arith, is.quotes, moved.quotes);
  position = within-far (2 ^ 32 * n + 2 ^ 32) (2 ^ 32 * (n + 1)) _ (omega arith) (within-near (2 ^ 32 * n) (2 ^ 32) _ _ is.position moved.position);
  cash = within-far (2 ^ 63 + 2 ^ 71 * n + 2 ^ 71) (2 ^ 63 + 2 ^ 71 * (n + 1)) _ (omega arith) (within-near (2 ^ 63 + 2 ^ 71 * n) (2 ^ 71) _ _ is.cash moved.cash);
}

pub after-edit : (n : ℕ) (t : Trader) (name : Param) (value : ℕ) → IsAfter n t → IsAfter n (trader_with name value t)
after-edit n t name value is = record { tokens = is.tokens; draws = is.draws; quotes = is.quotes; position = is.position; cash = is.cash }

pub after-later : (n m : ℕ) (t : Trader) → n ≤ m → IsAfter n t → IsAfter m t
after-later n m t le is = record {
  tokens = omega (arith, is.tokens);
  draws = omega (arith, is.draws);
  quotes = omega (arith, is.quotes);
  position = within-far (2 ^ 32 * n) (2 ^ 32 * m) _ (omega arith) is.position;
  cash = within-far (2 ^ 63 + 2 ^ 71 * n) (2 ^ 63 + 2 ^ 71 * m) _ (omega arith) is.cash;
}

pub after-ready : (n : ℕ) (t : Trader) → n ≤ 1000000 → IsAfter n t → IsReady t
after-ready n t few is = record {
  tokens = omega (arith, is.tokens);
  draws = omega (arith, is.draws);
  quotes = omega (arith, is.quotes);
}

pub after-modest : (n : ℕ) (t : Trader) → n ≤ 1000000 → IsAfter n t → IsModest t.orders.account
after-modest n t few is = record {
  position = within-far (2 ^ 32 * n) (2 ^ 62) _ (omega arith) is.position;
  cash = within-far (2 ^ 63 + 2 ^ 71 * n) (2 ^ 120) _ (omega arith) is.cash;
}
