use Rattle.std.proofs.Common.{◌≡◌, ◌≢◌, true}
use Rattle.std.proofs.lemmas.List.Elements.{recursion_from_All}
use Rattle.market_types.specs.declared.message.Message.{Message}
use Rattle.event_queue.proofs.Kept.{all-joined}
use Rattle.event_queue.proofs.Numbers.{length-joined}
use Rattle.event_queue.proofs.Orders.{rising-joined}
use Rattle.event_queue.proofs.laws.a_message_joins.Goals as goal

pub returns : goal.returns
returns c = record {
  more = length-joined;
  tested = λ p m w. all-joined (λ (x : Message). p x ≡ true) m w;
  new = λ n m w. all-joined (λ (x : Message). x.seq ≢ n) m w;
  rising = λ m w new. rising-joined m w (recursion_from_All (λ (x : Message). x.seq ≢ m.seq) w new);
}
