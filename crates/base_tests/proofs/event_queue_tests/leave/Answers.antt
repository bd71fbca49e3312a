use Rattle.std.proofs.Common.{◌<◌}
use Rattle.market_types.specs.declared.message.Message.{Message}
use Rattle.event_queue.specs.Waiting.{least}
use Rattle.event_queue.proofs.Kept.{all-popped}
use Rattle.base_tests.proofs.event_queue_tests.leave.Goals as goal

pub returns-clause-before : goal.returns-clause-before
returns-clause-before c =
    let e = c.drop_least.ensures in
    all-popped (λ (m : Message). m.seq < c.args.next) (least c.args.queue.now.list) c.args.queue.now c.drop_least.new.self e.left e.empty c.requires.before
