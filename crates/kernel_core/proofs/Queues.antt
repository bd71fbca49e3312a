-- Lemmas on the queue under the mail.
use Rattle.std.proofs.Common.{◌≡◌, ◌≢◌, ◌+◌, ◌<◌, ◌≤◌, ℕ, All, List, Option, Some, None, IfSome, IfNone, OnSome, length, ap, sym, subst, arith}
use Rattle.std.proofs.lemmas.List.Elements.{All-weaker}
use Rattle.market_types.specs.Room.{Room}
use Rattle.market_types.specs.declared.message.Message.{Message}
use Rattle.event_queue.specs.Waiting.{IsNew, joined, least, without}
use Rattle.event_queue.proofs.Kept.{all-delayed, all-least, all-popped}
use Rattle.kernel_core.specs.Sendable.{IsMail}

-- what the mail keeps, once the next message has left
pub kept-popped : (n : ℕ) (r : Option Message) (old new : Room Message) → IfSome r (λ (m : Message). new ≡ record { list = without m.seq old.list; spare = old.spare + 1 }) → OnSome r (length new.list + 1 ≡ length old.list) → IfNone r (new ≡ old) → IsMail old n → IsMail new n
kept-popped n (Some m) old new left shrinks empty k =
    let spare : new.spare ≡ old.spare + 1 = ap (λ (q : Room Message). q.spare) left in
    record {
      room = omega (arith, k.room);
      few = omega (arith, k.few);
      numbers = all-popped (λ (x : Message). x.seq < n) (Some m) old new left empty k.numbers;
    }
kept-popped n None old new left shrinks empty k = subst (λ (q : Room Message). IsMail q n) (sym empty) k

-- the next number is new
pub new-number : (n s : ℕ) (w : List Message) → s ≡ n → All (λ (m : Message). m.seq < n) w → IsNew s w
new-number n s w e a = All-weaker (λ (m : Message). m.seq < n) (λ (m : Message). m.seq ≢ s) (λ m h. omega arith) w a

-- what the mail keeps, once the next message is put back to a time under its number
pub kept-delayed : (n time : ℕ) (r : Option Message) (old new : Room Message) → r ≡ least old.list → IfSome r (λ (m : Message). new ≡ record { list = joined (record { time = time; seq = m.seq; from = m.from; to = m.to; body = m.body }) (without m.seq old.list); spare = old.spare }) → length new.list ≡ length old.list → IfNone r (new ≡ old) → IsMail old n → IsMail new n
kept-delayed n time (Some m) old new next back same empty k =
    let spare : new.spare ≡ old.spare = ap (λ (q : Room Message). q.spare) back in
    record {
      room = omega (arith, k.room, same, spare);
      few = omega (arith, k.few, same);
      numbers = all-delayed (λ (x : Message). x.seq < n) time (Some m) old new back empty (all-least (λ (x : Message). x.seq < n) old.list m next k.numbers) k.numbers;
    }
kept-delayed n time None old new next back same empty k = subst (λ (q : Room Message). IsMail q n) (sym empty) k
