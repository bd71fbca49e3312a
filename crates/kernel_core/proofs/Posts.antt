-- Lemmas on what joins and leaves the mail.
use Rattle.std.proofs.Common.{◌≡◌, ◌≢◌, ℕ, ◌+◌, ◌<◌, ◌≤◌, length, inl, inr, refl, sym, subst, arith, All}
use Rattle.std.proofs.lemmas.Bool.{cases_lt, lt-ltb, le-ltb}
use Rattle.std.proofs.lemmas.List.Elements.{All-weaker, recursion_from_All}
use Rattle.market_types.specs.Limits.{most_waiting}
use Rattle.market_types.specs.declared.message.Message.{Message}
use Rattle.event_queue.specs.Waiting.{joined}
use Rattle.event_queue.proofs.Kept.{all-joined}
use Rattle.event_queue.proofs.Numbers.{length-joined}
use Rattle.event_queue.proofs.Orders.{rising-joined}
use Rattle.kernel_core.specs.Post.{IsOrderly, Post, joins}

-- the mail after a message joined under a number, and after one was dropped
abbrev with_joined : Post → (ℕ → Message) → Post
with_joined p m = record { waiting = joined (m p.next_seq) p.waiting; next_seq = p.next_seq + 1; dropped = p.dropped }

abbrev with_dropped : Post → Post
with_dropped p = record p { dropped = p.dropped + 1 }

pub joins-room : (p : Post) (m : ℕ → Message) → length p.waiting < most_waiting → joins p m ≡ with_joined p m
joins-room p m h = rw (lt-ltb (length p.waiting) most_waiting h) refl

pub joins-full : (p : Post) (m : ℕ → Message) → most_waiting ≤ length p.waiting → joins p m ≡ with_dropped p
joins-full p m h = rw (le-ltb (length p.waiting) most_waiting h) refl

-- what holds in both cases
pub joins-cases : (Q : Post → Type 0) (p : Post) (m : ℕ → Message) → (length p.waiting < most_waiting → Q (with_joined p m)) → Q (with_dropped p) → Q (joins p m)
joins-cases Q p m room full =
    elim (cases_lt (length p.waiting) most_waiting) [
      | inl h ↦ subst Q (sym (joins-room p m h)) (room h)
      | inr h ↦ subst Q (sym (joins-full p m h)) full
    ]

pub joins-counted : (p : Post) (m : ℕ → Message) → (joins p m).next_seq + (joins p m).dropped ≡ p.next_seq + p.dropped + 1
joins-counted p m = joins-cases (λ (q : Post). q.next_seq + q.dropped ≡ p.next_seq + p.dropped + 1) p m (λ h. omega arith) (omega arith)

pub joins-held : (p : Post) (m : ℕ → Message) → (joins p m).next_seq + length p.waiting ≡ p.next_seq + length (joins p m).waiting
joins-held p m = joins-cases (λ (q : Post). q.next_seq + length p.waiting ≡ p.next_seq + length q.waiting) p m (λ h. omega (arith, length-joined (m p.next_seq) p.waiting)) (omega arith)

pub all-joins : (P : Message → Type 0) (p : Post) (m : ℕ → Message) → P (m p.next_seq) → All P p.waiting → All P (joins p m).waiting
all-joins P p m new a = joins-cases (λ (q : Post). All P q.waiting) p m (λ h. all-joined P (m p.next_seq) p.waiting new a) a

pub orderly-joins : (p : Post) (m : ℕ → Message) → (m p.next_seq).seq ≡ p.next_seq → IsOrderly p → IsOrderly (joins p m)
orderly-joins p m e o = joins-cases IsOrderly p m (λ h. joined-orderly h) (record { few = o.few; numbers = o.numbers; rising = o.rising })
  where
    other : (x : Message) → x.seq < p.next_seq → x.seq ≢ (m p.next_seq).seq
    other x h = omega (arith, e)

    joined-orderly : length p.waiting < most_waiting → IsOrderly (with_joined p m)
    joined-orderly h = record {
      few = omega (arith, length-joined (m p.next_seq) p.waiting);
      numbers = all-joined (λ (x : Message). x.seq < p.next_seq + 1) (m p.next_seq) p.waiting (omega (arith, e)) (All-weaker (λ (x : Message). x.seq < p.next_seq) (λ (x : Message). x.seq < p.next_seq + 1) (λ x k. omega arith) p.waiting o.numbers);
      rising = rising-joined (m p.next_seq) p.waiting (recursion_from_All (λ (x : Message). x.seq ≢ (m p.next_seq).seq) p.waiting (All-weaker (λ (x : Message). x.seq < p.next_seq) (λ (x : Message). x.seq ≢ (m p.next_seq).seq) other p.waiting o.numbers)) o.rising;
    }
