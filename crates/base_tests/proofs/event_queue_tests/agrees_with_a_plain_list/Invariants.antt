use Rattle.std.proofs.Common.{◌<◌, ◌≤◌, ◌+◌, All, length}
use Rattle.market_types.specs.declared.message.Message.{Message}
use Rattle.base_tests.proofs.event_queue_tests.agrees_with_a_plain_list.Given as goal

abbrev pub invariant-loop-next : goal.invariant-loop-next
invariant-loop-next g l = record {
  before : All (λ (m : Message). m.seq < l.next) l.queue.list;
  few : length l.queue.list ≤ l.next;
  room : 4000 ≤ l.queue.spare + l.next;
}
