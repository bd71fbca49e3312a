-- The best price of indexed orders.
use Rattle.std.proofs.Common.{◌≡◌, ◌≢◌, ℕ, ◌-◌, ◌<◌, ◌≤◌, true, false, cond, eqb, List, [], ◌∷◌, length, get_or, ◌∙◌, arith, suc, zero, subst, Contains}
use Rattle.std.proofs.lemmas.Bool.Decides.{nat_tests}
use Rattle.std.proofs.lemmas.List.{get_or_default}
use Rattle.std.proofs.lemmas.List.Elements.{All-from_recursion}
use Rattle.price_time_book.specs.declared.resting.Resting.{Resting}
use Rattle.market_types.specs.declared.order.Side.{Side}
use Rattle.market_types.specs.declared.order.Side.TheVariants.{Buy, Sell}
use Rattle.price_time_book.specs.Indexed.{key_of, open_orders, shares_by, IsImproving, IsNoBetter, IsWorse, IsOpenAt}

pub worse_is : (s : Side) (p q : ℕ) → IsWorse s p q → IsNoBetter s p q
worse_is Buy p q h = omega arith
worse_is Sell p q h = omega arith

pub worse_apart : (s : Side) (p q : ℕ) → IsWorse s p q → p ≢ q
worse_apart Buy p q h e = omega arith
worse_apart Sell p q h e = omega arith

pub worse-trans : (s : Side) (p q r : ℕ) → IsWorse s p q → IsWorse s q r → IsWorse s p r
worse-trans Buy p q r h k = omega arith
worse-trans Sell p q r h k = omega arith

pub worse_before : (s : Side) (p q r : ℕ) → IsNoBetter s p q → IsWorse s q r → IsWorse s p r
worse_before Buy p q r h k = omega arith
worse_before Sell p q r h k = omega arith

pub worse_after : (s : Side) (p q r : ℕ) → IsWorse s p q → IsNoBetter s q r → IsWorse s p r
worse_after Buy p q r h k = omega arith
worse_after Sell p q r h k = omega arith

pub no_better_both : (s : Side) (p q : ℕ) → IsNoBetter s p q → IsNoBetter s q p → p ≡ q
no_better_both Buy p q h k = omega arith
no_better_both Sell p q h k = omega arith

pub no_better_itself : (s : Side) (p : ℕ) → IsNoBetter s p p
no_better_itself Buy p = omega arith
no_better_itself Sell p = omega arith

pub rising_head : (s : Side) (p : ℕ) (ps : List ℕ) (k : ℕ) → IsImproving s (p ∷ ps) → k < length (p ∷ ps) → IsNoBetter s p (get_or (p ∷ ps) k 0)
rising_head s p ps zero r h = no_better_itself s p
rising_head s p ps (suc k) r h = worse_is s p (get_or ps k 0) (All-from_recursion (λ (q : ℕ). IsWorse s p q) ps r.0 k 0 (omega arith))

pub rising_le : (s : Side) (ps : List ℕ) (i j : ℕ) → IsImproving s ps → i ≤ j → j < length ps → IsNoBetter s (get_or ps i 0) (get_or ps j 0)
rising_le s [] i j r h l = absurd (omega arith)
rising_le s (p ∷ ps) zero j r h l = rising_head s p ps j r l
rising_le s (p ∷ ps) (suc i) zero r h l = absurd (omega arith)
rising_le s (p ∷ ps) (suc i) (suc j) r h l = rising_le s ps i j r.1 (omega arith) (omega arith)

pub rising_top : (s : Side) (ps : List ℕ) (p : ℕ) → IsImproving s ps → Contains ps p → IsNoBetter s p (get_or ps (length ps - 1) 0)
rising_top s ps p r c =
    let value : get_or ps c.0 0 ≡ p = get_or_default ps c.0 0 p c.1 ∙ c.2 in
    subst (λ q. IsNoBetter s q (get_or ps (length ps - 1) 0)) value (rising_le s ps c.0 (length ps - 1) r (omega (arith, c.1)) (omega (arith, c.1)))

pub shares_open : (os : List Resting) (p k : ℕ) → IsOpenAt os p k → 0 < shares_by p (open_orders os)
shares_open [] p k h = absurd (omega (arith, h.within))
shares_open (o ∷ os) p zero h =
    let t : eqb o.left 0 ≡ false = grind (arith, nat_tests, h.left) in
    let u : eqb (key_of o) p ≡ true = grind (arith, nat_tests, h.price) in
    rw t (rw u (omega (arith, h.left)))
shares_open (o ∷ os) p (suc k) h =
    let rest = shares_open os p k (record { within = omega (arith, h.within); left = h.left; price = h.price }) in
    elim (eqb o.left 0) as (λ b. 0 < shares_by p (cond b (open_orders os) (o ∷ open_orders os))) [ true ↦ rest | false ↦ omega (arith, rest) ]
