use Rattle.std.proofs.Common.{length, arith, ap}
use Rattle.market_floor.specs.Floor.{FloorState}
use Rattle.market_floor.proofs.floor.Floor.change.Goals as goal

pub apply_change-requires : goal.apply_change-requires
apply_change-requires c = omega (arith, c.requires, ap (λ (f : FloorState). length f.exchange.stocks) c.self.view_is)
