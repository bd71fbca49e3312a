use Rattle.std.proofs.Common.{◌≡◌, ◌<◌, ◌≤◌, List, Option, Some, None, IfSome, All, refl}
use Rattle.market_types.specs.declared.message.Message.{Message}
use Rattle.event_queue.specs.Waiting.{least}
use Rattle.event_queue.proofs.Kept.{all-delayed, all-least}
use Rattle.base_tests.proofs.event_queue_tests.put_back.Goals as goal

pub returns-clause-before : goal.returns-clause-before
returns-clause-before c =
    let e = c.delay_least.ensures in
    let w = c.args.queue.now.list in
    all-delayed (λ (m : Message). m.seq < c.args.next) c.args.time (least w) c.args.queue.now c.delay_least.new.self e.delayed e.empty (low w (least w) refl c.requires.before) c.requires.before
  where
    low : (w : List Message) (o : Option Message) → o ≡ least w → All (λ (m : Message). m.seq < c.args.next) w → IfSome o (λ (m : Message). m.seq < c.args.next)
    low w (Some m) h a = all-least (λ (x : Message). x.seq < c.args.next) w m h a
    low w None h a = tt
