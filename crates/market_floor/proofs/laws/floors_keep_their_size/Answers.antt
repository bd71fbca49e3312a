use Rattle.std.proofs.Common.{List, ap, length}
use Rattle.market_floor.specs.Party.{PartyState}
use Rattle.market_floor.proofs.Rulings.{ruled-parties, ruled-stocks}
use Rattle.market_floor.proofs.Sizes.{edited-stocks, edited-traders, reaction-keeps}
use Rattle.market_floor.proofs.laws.floors_keep_their_size.Goals as goal

pub returns : goal.returns
returns c = record {
  dated_stocks = λ o applied time f. ruled-stocks o applied time f;
  dated_traders = λ o applied time f. ap (λ (ps : List PartyState). length ps) (ruled-parties o applied time f);
  stocks = λ o f m. (reaction-keeps o f m).stocks;
  traders = λ o f m. (reaction-keeps o f m).traders;
  edited_stocks = λ time e f. edited-stocks time e f;
  edited_traders = λ time e f. edited-traders time e f;
}
