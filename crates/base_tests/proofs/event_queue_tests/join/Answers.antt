use Rattle.std.proofs.Common.{◌<◌, ◌+◌, arith}
use Rattle.std.proofs.lemmas.List.Elements.{All-weaker}
use Rattle.market_types.specs.declared.message.Body.TheVariants.{Wake}
use Rattle.market_types.specs.declared.message.Message.{Message}
use Rattle.event_queue.proofs.Kept.{all-joined}
use Rattle.base_tests.proofs.event_queue_tests.join.Goals as goal

pub returns-clause-before : goal.returns-clause-before
returns-clause-before c =
    let before = All-weaker (λ (m : Message). m.seq < c.args.next) (λ (m : Message). m.seq < c.args.next + 1) (λ m h. omega arith) c.args.queue.now.list c.requires.before in
    rw c.push_body.ensures.joins (all-joined (λ (m : Message). m.seq < c.args.next + 1) (record { time = c.args.time; seq = c.args.next; from = 1; to = 1; body = Wake }) c.args.queue.now.list (omega arith) before)
