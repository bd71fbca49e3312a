use Rattle.market_floor.proofs.Rulings.{ruled-times}
use Rattle.market_floor.proofs.Sizes.{edited-times, reaction-keeps}
use Rattle.market_floor.proofs.laws.feeds_are_timely.Goals as goal

pub returns : goal.returns
returns c = record {
  dated = λ o applied time f rising. ruled-times c.first_changes_are_due.ensures.due o applied time f rising;
  events = λ o f m. (reaction-keeps o f m).times;
  edits = λ time e f. edited-times time e f;
}
