use Rattle.std.proofs.Common.{refl}
use Rattle.event_queue.specs.Waiting.{least}
use Rattle.kernel_core.proofs.Queues.{kept-delayed}
use Rattle.kernel_core.proofs.mail.Mail.delay_least.Goals as goal

pub invariant_of-self : goal.invariant_of-self
invariant_of-self c =
    let q = c.self.inside.queue in
    let e = c.delay_least.ensures in
    kept-delayed c.self.inside.next_seq c.args.time (least q.list) q c.delay_least.new.self refl e.delayed e.same e.empty c.self.invariant
