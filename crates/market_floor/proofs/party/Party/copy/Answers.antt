use Rattle.std.proofs.Common.{rules}
use Rattle.market_floor.proofs.party.Party.copy.Goals as goal

pub returns : goal.returns
returns c = search rules
