use Rattle.std.proofs.Common.{◌<◌, All}
use Rattle.market_types.specs.declared.message.Message.{Message}
use Rattle.base_tests.proofs.event_queue_tests.leave_all.Given as goal

abbrev pub invariant-loop-message : goal.invariant-loop-message
invariant-loop-message g l = All (λ (m : Message). m.seq < l.next) l.queue.list
