use Rattle.std.proofs.Common.{◌≡◌, ◌<◌, ◌+◌, ◌-◌, List, All, refl, ap, sym, subst, arith}
use Rattle.std.proofs.lemmas.List.Elements.{All-weaker}
use Rattle.market_types.specs.Room.{Room}
use Rattle.market_types.specs.declared.message.Message.{Message}
use Rattle.event_queue.proofs.Kept.{all-joined}
use Rattle.kernel_core.proofs.Queues.{new-number}
use Rattle.kernel_core.proofs.mail.Mail.join.Goals as goal

pub push_body-requires-clause-fresh : goal.push_body-requires-clause-fresh
push_body-requires-clause-fresh c =
    new-number c.self.inside.next_seq c.self.inside.next_seq c.self.inside.queue.list refl c.self.invariant.numbers

pub invariant_of-self : goal.invariant_of-self
invariant_of-self c =
    let n = c.self.inside.next_seq in
    let P = λ (m : Message). m.seq < n + 1 in
    let w = c.self.inside.queue.list in
    let m : Message = record { time = c.args.time; seq = n; from = c.args.from; to = c.args.to; body = c.args.body.now } in
    let list = ap (λ (q : Room Message). q.list) c.push_body.ensures.joins in
    let spare : c.push_body.new.self.spare ≡ c.self.inside.queue.spare - 1 = ap (λ (q : Room Message). q.spare) c.push_body.ensures.joins in
    record {
      room = omega (arith, c.self.invariant.room, c.push_body.ensures.grows);
      few = omega (arith, c.self.invariant.few, c.push_body.ensures.grows);
      numbers = subst (λ (v : List Message). All P v) (sym list) (all-joined P m w (omega arith) (All-weaker (λ (m : Message). m.seq < n) P (λ m h. omega arith) w c.self.invariant.numbers));
    }
