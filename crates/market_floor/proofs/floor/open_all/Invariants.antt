use Rattle.std.proofs.Common.{◌≡◌, ◌+◌, ◌++◌, All, drop, length}
use Rattle.market_floor.specs.Floor.{parties_from}
use Rattle.market_floor.specs.Sound.{IsSoundParty}
use Rattle.market_floor.proofs.floor.open_all.Given as goal

abbrev pub invariant-loop-i : goal.invariant-loop-i
invariant-loop-i l = record {
  rest : l.parties.items ++ parties_from (l.i + 1) (drop l.i l.o.traders) ≡ parties_from 1 l.o.traders;
  sound : All (IsSoundParty (length l.o.stocks) 0) l.parties.items;
}
