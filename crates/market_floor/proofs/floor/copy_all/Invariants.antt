use Rattle.std.proofs.Common.{◌≡◌, take}
use Rattle.market_floor.proofs.floor.copy_all.Given as goal

abbrev pub invariant-loop-party : goal.invariant-loop-party
invariant-loop-party l = l.copies.items ≡ take l.party-index l.parties
