use Rattle.std.proofs.Common.{◌≡◌, ◌+◌, Option, Some, None, IfSome, IfNone, ap}
use Rattle.market_types.specs.declared.message.Message.{Message}
use Rattle.event_queue.specs.Waiting.{least}
use Rattle.kernel_core.specs.Post.{Post, taken}
use Rattle.kernel_tests.proofs.kernel_mail_tests.take.Goals as goal

counts-left : (o : Option Message) (old new : Post) → IfSome o (λ (m : Message). new ≡ taken old m) → IfNone o (new ≡ old) → new.next_seq + new.dropped ≡ old.next_seq + old.dropped
counts-left (Some m) old new left none = ap (λ (p : Post). p.next_seq + p.dropped) left
counts-left None old new left none = ap (λ (p : Post). p.next_seq + p.dropped) none

pub returns : goal.returns
returns c =
    let e = c.drop_least.ensures in
    counts-left (least c.args.mail.now.waiting) c.args.mail.now c.drop_least.new.self e.left e.none
