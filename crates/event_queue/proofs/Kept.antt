-- What holds of all waiting messages stays so when a message joins or leaves, and holds of the least.
use Rattle.std.proofs.Common.{◌≡◌, ◌+◌, ℕ, All, Option, Some, None, IfSome, IfNone, true, false, not, cond, eqb, List, [], ◌∷◌, sym, subst, arith}
use Rattle.std.specs.List.{AllByRecursion, best_of}
use Rattle.std.proofs.lemmas.List.Elements.{All-from_recursion, recursion_from_All, All-filter}
use Rattle.market_types.specs.Room.{Room}
use Rattle.market_types.specs.declared.message.Message.{Message}
use Rattle.event_queue.specs.Waiting.{before, least, joined, without}
use Rattle.event_queue.proofs.Orders.{each-joined}

pub all-joined : (P : Message → Type 0) (m : Message) (w : List Message) → P m → All P w → All P (joined m w)
all-joined P m w p a = All-from_recursion P (joined m w) (each-joined P m w p (recursion_from_All P w a))

pub all-without : (P : Message → Type 0) (n : ℕ) (w : List Message) → All P w → All P (without n w)
all-without P n w a = All-filter (λ (m : Message). not (eqb m.seq n)) P w a

pub best-all : (P : Message → Type 0) (a : Message) (w : List Message) → P a → AllByRecursion P w → P (best_of before a w)
best-all P a [] p q = p
best-all P a (x ∷ w) p q = best-all P (cond (before x a) x a) w (elim (before x a) as (λ b. P (cond b x a)) [ true ↦ q.0 | false ↦ p ]) q.1

pub all-least : (P : Message → Type 0) (w : List Message) (m : Message) → Some m ≡ least w → All P w → P m
all-least P [] m e a = cc
all-least P (x ∷ w) m e a =
    let r = recursion_from_All P (x ∷ w) a in
    let s : best_of before x w ≡ m = grind arith in
    subst P s (best-all P x w r.0 r.1)

-- the same at what `drop_least` leaves
pub all-popped : (P : Message → Type 0) (r : Option Message) (old new : Room Message) → IfSome r (λ (m : Message). new ≡ record { list = without m.seq old.list; spare = old.spare + 1 }) → IfNone r (new ≡ old) → All P old.list → All P new.list
all-popped P (Some m) old new left empty a = subst (λ (q : Room Message). All P q.list) (sym left) (all-without P m.seq old.list a)
all-popped P None old new left empty a = subst (λ (q : Room Message). All P q.list) (sym empty) a

-- the same at what `delay_least` leaves
pub all-delayed : (P : Message → Type 0) (time : ℕ) (r : Option Message) (old new : Room Message) → IfSome r (λ (m : Message). new ≡ record { list = joined (record { time = time; seq = m.seq; from = m.from; to = m.to; body = m.body }) (without m.seq old.list); spare = old.spare }) → IfNone r (new ≡ old) → IfSome r (λ (m : Message). P (record { time = time; seq = m.seq; from = m.from; to = m.to; body = m.body })) → All P old.list → All P new.list
all-delayed P time (Some m) old new delayed empty p a = subst (λ (q : Room Message). All P q.list) (sym delayed) (all-joined P (record { time = time; seq = m.seq; from = m.from; to = m.to; body = m.body }) (without m.seq old.list) p (all-without P m.seq old.list a))
all-delayed P time None old new delayed empty p a = subst (λ (q : Room Message). All P q.list) (sym empty) a
