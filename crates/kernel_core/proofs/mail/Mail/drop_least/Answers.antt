use Rattle.event_queue.specs.Waiting.{least}
use Rattle.kernel_core.proofs.Queues.{kept-popped}
use Rattle.kernel_core.proofs.mail.Mail.drop_least.Goals as goal

pub invariant_of-self : goal.invariant_of-self
invariant_of-self c =
    let q = c.self.inside.queue in
    let e = c.drop_least.ensures in
    kept-popped c.self.inside.next_seq (least q.list) q c.drop_least.new.self e.left e.shrinks e.empty c.self.invariant
