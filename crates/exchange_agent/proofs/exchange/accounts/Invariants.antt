use Rattle.std.proofs.Common.{◌≡◌, ◌^◌, take, All}
use Rattle.exchange_agent.specs.Sound.{IsWithin}
use Rattle.exchange_agent.proofs.exchange.accounts.Given as goal

abbrev pub invariant-loop-amount : goal.invariant-loop-amount
invariant-loop-amount l = record {
  value : l.accounts.items ≡ take l.amount-index l.cash;
  small : All (IsWithin (2 ^ 63)) l.accounts.items;
}
