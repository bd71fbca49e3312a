use Rattle.std.proofs.Common.{◌<◌, ◌≤◌, ◌+◌, All, length}
use Rattle.market_types.specs.declared.message.Message.{Message}
use Rattle.base_tests.proofs.event_queue_tests.join_all.Given as goal

abbrev pub invariant-loop-i : goal.invariant-loop-i
invariant-loop-i l = record {
  before : All (λ (m : Message). m.seq < l.i) l.queue.list;
  few : length l.queue.list ≤ l.i;
  room : length l.messages ≤ l.queue.spare + l.i;
}
