use Rattle.std.proofs.Common.{◌≡◌, ℕ, ◌<◌, get_or, ap, sym, ◌∙◌, refl, arith, rules}
use Rattle.std.specs.Prelude.{drop}
use Rattle.std.specs.Int.{w64, from_be_bytes}
use Rattle.std.specs.Ordering.{nat_cmp, ordering_then}
use Rattle.std.specs.declared.cmp.Ordering.{Ordering}
use Rattle.std.specs.declared.cmp.Ordering.TheVariants.{Less, Equal, Greater}
use Rattle.price_time_book.proofs.Bytewise.{fourteen_cmp}
use Rattle.price_time_book.proofs.bytes.compared.Goals as goal

-- an order that is not Equal stands
other : (o p : Ordering) → (o ≡ Equal → ⊥) → ordering_then o p ≡ o
other Less p h = refl
other Equal p h = absurd (h refl)
other Greater p h = refl

pub returns-in-Equal : goal.returns-in-Equal
returns-in-Equal c =
    let left : (i : ℕ) → get_or c.args.left.now i 0 < 256 = search rules in
    let right : (i : ℕ) → get_or c.args.right.now i 0 < 256 = search rules in
    let heads : nat_cmp c.head.result c.head-2.result ≡ Equal = sym c.cmp.ensures ∙ c.in-Equal.is in
    c.cmp-in-Equal.ensures
    ∙ (λ i. nat_cmp (c.tail.ensures i) (c.tail-in-Equal.ensures i))
    ∙ sym (ap (λ (o : Ordering). ordering_then o (nat_cmp (from_be_bytes w64 (drop 6 c.args.left.now)) (from_be_bytes w64 (drop 6 c.args.right.now)))) heads)
    ∙ (λ i. ordering_then (nat_cmp (c.head.ensures i) (c.head-2.ensures i)) (nat_cmp (from_be_bytes w64 (drop 6 c.args.left.now)) (from_be_bytes w64 (drop 6 c.args.right.now))))
    ∙ fourteen_cmp c.args.left.now c.args.right.now (omega arith) (omega arith) left right

pub returns-in_default : goal.returns-in_default
returns-in_default c =
    let left : (i : ℕ) → get_or c.args.left.now i 0 < 256 = search rules in
    let right : (i : ℕ) → get_or c.args.right.now i 0 < 256 = search rules in
    let tails = nat_cmp (from_be_bytes w64 (drop 6 c.args.left.now)) (from_be_bytes w64 (drop 6 c.args.right.now)) in
    sym (other c.cmp.result tails c.in_default.not-Equal)
    ∙ ap (λ (o : Ordering). ordering_then o tails) c.cmp.ensures
    ∙ (λ i. ordering_then (nat_cmp (c.head.ensures i) (c.head-2.ensures i)) tails)
    ∙ fourteen_cmp c.args.left.now c.args.right.now (omega arith) (omega arith) left right
