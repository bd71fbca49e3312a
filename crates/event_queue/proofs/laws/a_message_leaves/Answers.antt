use Rattle.std.proofs.Common.{◌≡◌, ◌≢◌, true, not, eqb}
use Rattle.std.proofs.lemmas.List.Elements.{recursion_from_All}
use Rattle.market_types.specs.declared.message.Message.{Message}
use Rattle.event_queue.proofs.Kept.{all-without}
use Rattle.event_queue.proofs.Numbers.{without-joined}
use Rattle.event_queue.proofs.Orders.{new-without, rising-filter}
use Rattle.event_queue.proofs.laws.a_message_leaves.Goals as goal

pub returns : goal.returns
returns c = record {
  new = new-without;
  tested = λ p n w. all-without (λ (x : Message). p x ≡ true) n w;
  rising = λ n w. rising-filter (λ (m : Message). not (eqb m.seq n)) w;
  undone = λ m w new. without-joined m w (recursion_from_All (λ (x : Message). x.seq ≢ m.seq) w new);
}
