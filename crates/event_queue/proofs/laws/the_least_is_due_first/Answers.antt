use Rattle.std.proofs.Common.{◌≡◌, true, sym}
use Rattle.market_types.specs.declared.message.Message.{Message}
use Rattle.event_queue.proofs.First.{least-first, least-soonest, least-fewer}
use Rattle.event_queue.proofs.Kept.{all-least}
use Rattle.event_queue.proofs.laws.the_least_is_due_first.Goals as goal

pub returns : goal.returns
returns c = record {
  tested = λ p w m e. all-least (λ (x : Message). p x ≡ true) w m (sym e);
  first = least-first;
  soonest = least-soonest;
  fewer = least-fewer;
}
