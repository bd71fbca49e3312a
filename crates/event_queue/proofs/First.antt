-- The least message is one of those that wait, and none is due before it.
use Rattle.std.proofs.Common.{◌≡◌, ◌≤◌, ◌+◌, false, All, Some, List, [], ◌∷◌, length, sym, subst, arith}
use Rattle.std.specs.List.{best_of}
use Rattle.std.proofs.lemmas.Bool.Decides.{nat_tests}
use Rattle.std.proofs.lemmas.List.Elements.{All-from_recursion, All-weaker}
use Rattle.market_types.specs.declared.message.Message.{Message}
use Rattle.event_queue.specs.Rising.{IsRising}
use Rattle.event_queue.specs.Waiting.{before, least, without}
use Rattle.event_queue.proofs.Kept.{all-least}
use Rattle.event_queue.proofs.Numbers.{best_first}
use Rattle.event_queue.proofs.Orders.{length-without}

-- none is due before it
pub least-first : (w : List Message) (m : Message) → least w ≡ Some m → All (λ (x : Message). before x m ≡ false) w
least-first [] m e = cc
least-first (a ∷ w) m e =
    let s : best_of before a w ≡ m = grind arith in
    subst (λ (z : Message). All (λ (x : Message). before x z ≡ false) (a ∷ w)) s (All-from_recursion (λ (x : Message). before x (best_of before a w) ≡ false) (a ∷ w) (best_first a w))

not_sooner : (x m : Message) → before x m ≡ false → m.time ≤ x.time
not_sooner x m h = grind (arith, nat_tests)

pub least-soonest : (w : List Message) (m : Message) → least w ≡ Some m → All (λ (x : Message). m.time ≤ x.time) w
least-soonest w m e = All-weaker (λ (x : Message). before x m ≡ false) (λ (x : Message). m.time ≤ x.time) (λ x h. not_sooner x m h) w (least-first w m e)

-- it leaves one fewer
pub least-fewer : (w : List Message) (m : Message) → least w ≡ Some m → IsRising w → length (without m.seq w) + 1 ≡ length w
least-fewer w m e r = length-without m w r (λ P a. all-least P w m (sym e) (All-from_recursion P w a))
