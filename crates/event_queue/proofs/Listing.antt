-- Lemmas on the messages in the order in which they are due: sorting finds `in_order`.
use Rattle.std.proofs.Common.{◌≡◌, ℕ, ◌<◌, ◌≤◌, Bool, true, false, cond, eqb, List, [], ◌∷◌, length, get_or, refl, sym, arith, suc, zero, subst}
use Rattle.std.specs.List.{AllByRecursion, IsDistinct}
use Rattle.std.specs.List.Sorted.{IsPermutation, IsSortedBy}
use Rattle.std.proofs.lemmas.Bool.Decides.{nat_tests}
use Rattle.std.proofs.lemmas.List.Elements.{All-from_recursion, recursion_from_All}
use Rattle.std.proofs.lemmas.List.Sorted.{All-permutation, IsPermutation-sym, sorted_far}
use Rattle.std.proofs.lemmas.Map.Keys.{IsDistinct-head, IsDistinct-tail, IsDistinct-cons, IsDistinct-IsPermutation}
use Rattle.market_types.specs.declared.message.Message.{Message}
use Rattle.event_queue.specs.InOrder.{placed, in_order}
use Rattle.event_queue.specs.Waiting.{before}
use Rattle.event_queue.specs.Rising.{IsRising}
use Rattle.event_queue.proofs.Orders.{before-order, each-weaker}

-- whether two messages have one number
abbrev pub same_number : Message → Message → Bool
same_number a b = eqb a.seq b.seq

-- each message is due before all that follow it
abbrev pub IsAscending : List Message → Type 0
IsAscending [] = Unit {0}
IsAscending (x ∷ w) = AllByRecursion (λ (y : Message). before x y ≡ true) w × IsAscending w

before-chain : (a b c : Message) → before a b ≡ true → before b c ≡ true → before a c ≡ true
before-chain a b c h k = grind (arith, nat_tests)

before-self : (a : Message) → before a a ≡ false
before-self a = grind (arith, nat_tests)

before-one_way : (a b : Message) → before a b ≡ true → before b a ≡ false
before-one_way a b h = grind (arith, nat_tests)

-- of two messages with different numbers one is due before the other
before-other_way : (a b : Message) → before a b ≡ false → same_number b a ≡ false → before b a ≡ true
before-other_way a b h n = grind (arith, nat_tests)

numbers-differ : (a b : Message) → a.seq < b.seq → same_number a b ≡ false
numbers-differ a b h = grind (arith, nat_tests)

numbers-flip : (a b : Message) → same_number a b ≡ same_number b a
numbers-flip a b = grind (arith, nat_tests)

numbers-flipped : (a b : Message) → same_number a b ≡ false → same_number b a ≡ false
numbers-flipped a b h = grind (arith, nat_tests)

-- placed and in_order have the members of the list
each-placed : (P : Message → Type 0) (m : Message) (w : List Message) → P m → AllByRecursion P w → AllByRecursion P (placed m w)
each-placed P m [] p a = (p, tt)
each-placed P m (x ∷ w) p a = elim (before m x) as (λ b. AllByRecursion P (cond b (m ∷ (x ∷ w)) (x ∷ placed m w))) [
  | true ↦ (p, a)
  | false ↦ (a.0, each-placed P m w p a.1)
]

placed-each : (P : Message → Type 0) (m : Message) (w : List Message) → AllByRecursion P (placed m w) → P m × AllByRecursion P w
placed-each P m [] a = a
placed-each P m (x ∷ w) a =
    elim (before m x) as (λ b. AllByRecursion P (cond b (m ∷ (x ∷ w)) (x ∷ placed m w)) → P m × (P x × AllByRecursion P w)) [
      | true ↦ λ h. h
      | false ↦ λ h. (let r = placed-each P m w h.1 in (r.0, (h.0, r.1)))
    ] a

each-in_order : (P : Message → Type 0) (w : List Message) → AllByRecursion P w → AllByRecursion P (in_order w)
each-in_order P [] a = tt
each-in_order P (m ∷ w) a = each-placed P m (in_order w) a.0 (each-in_order P w a.1)

in_order-each : (P : Message → Type 0) (w : List Message) → AllByRecursion P (in_order w) → AllByRecursion P w
in_order-each P [] a = tt
in_order-each P (m ∷ w) a = let r = placed-each P m (in_order w) a in (r.0, in_order-each P w r.1)

-- in_order ascends
placed_ascends : (m x : Message) (w : List Message) (b : Bool) → before m x ≡ b → same_number m x ≡ false → IsAscending (x ∷ w) → IsAscending (placed m w) → IsAscending (cond b (m ∷ (x ∷ w)) (x ∷ placed m w))
placed_ascends m x w true h n r s = ((h, each-weaker (λ (y : Message). before x y ≡ true) (λ (y : Message). before m y ≡ true) (λ y k. before-chain m x y h k) w r.0), r)
placed_ascends m x w false h n r s = (each-placed (λ (y : Message). before x y ≡ true) m w (before-other_way m x h (numbers-flipped m x n)) r.0, s)

ascending-placed : (m : Message) (w : List Message) → AllByRecursion (λ (x : Message). same_number m x ≡ false) w → IsAscending w → IsAscending (placed m w)
ascending-placed m [] n r = (tt, tt)
ascending-placed m (x ∷ w) n r = placed_ascends m x w (before m x) refl n.0 r (ascending-placed m w n.1 r.1)

ascending-in_order : (w : List Message) → IsDistinct same_number w → IsAscending (in_order w)
ascending-in_order [] d = tt
ascending-in_order (m ∷ w) d = ascending-placed m (in_order w) (each-in_order (λ (x : Message). same_number m x ≡ false) w (IsDistinct-head same_number m w d)) (ascending-in_order w (IsDistinct-tail same_number m w d))

-- numbers that rise are distinct
rising_distinct : (w : List Message) → IsRising w → IsDistinct same_number w
unfolding IsDistinct
rising_distinct [] r = tt
rising_distinct (x ∷ w) r = IsDistinct-cons same_number x w (each-weaker (λ (y : Message). x.seq < y.seq) (λ (y : Message). same_number x y ≡ false) (λ y h. numbers-differ x y h) w r.0) (rising_distinct w r.1)

-- a sorted list of distinct numbers ascends
sorted_ascends : (v : List Message) → ((i j : ℕ) (d : Message) → i ≤ j → j < length v → before (get_or v j d) (get_or v i d) ≡ false) → IsDistinct same_number v → IsAscending v
sorted_ascends [] far d = tt
sorted_ascends (x ∷ v) far d =
    let head : AllByRecursion (λ (y : Message). before x y ≡ true) v = recursion_from_All (λ (y : Message). before x y ≡ true) v
    (λ k e h. before-other_way (get_or v k e) x (far zero (suc k) e (omega arith) (omega arith)) (All-from_recursion (λ (y : Message). same_number x y ≡ false) v (IsDistinct-head same_number x v d) k e h)) in
    (head, sorted_ascends v (λ i j e le h. far (suc i) (suc j) e (omega arith) (omega arith)) (IsDistinct-tail same_number x v d))

each_then : (P Q : Message → Type 0) (w : List Message) → AllByRecursion (λ (m : Message). Q m → P m) w → AllByRecursion Q w → AllByRecursion P w
each_then P Q [] f a = tt
each_then P Q (m ∷ w) f a = (f.0 a.0, each_then P Q w f.1 a.1)

-- what holds of the members of x ∷ v, and of those of y ∷ w, where x and y are one, holds of the members of w
tail_each : (P : Message → Type 0) (x y : Message) (v w : List Message) → x ≡ y → IsAscending (x ∷ v) → IsAscending (y ∷ w) → ((Q : Message → Type 0) → AllByRecursion Q (x ∷ v) → AllByRecursion Q (y ∷ w)) → AllByRecursion P v → AllByRecursion P w
tail_each P x y v w same r s f a =
    let later : AllByRecursion (λ (m : Message). before x m ≡ true) w = subst (λ (z : Message). AllByRecursion (λ (m : Message). before z m ≡ true) w) (sym same) s.0 in
    let never : before x x ≡ true → P x = λ h. absurd (itself x h) in
    let both = f (λ (m : Message). before x m ≡ true → P m) (never, each-weaker P (λ (m : Message). before x m ≡ true → P m) (λ m p _. p) v a) in
    each_then P (λ (m : Message). before x m ≡ true) w both.1 later
  where
    itself : (m : Message) → before m m ≡ true → ⊥
    itself m h = grind (arith, nat_tests)

-- two ascending lists with the same members are one
same_ascending : (v w : List Message) → IsAscending v → IsAscending w → ((P : Message → Type 0) → AllByRecursion P v → AllByRecursion P w) → ((P : Message → Type 0) → AllByRecursion P w → AllByRecursion P v) → v ≡ w
same_ascending [] [] r s f g = refl
same_ascending [] (y ∷ w) r s f g = absurd (f (λ _. ⊥) tt).0
same_ascending (x ∷ v) [] r s f g = absurd (g (λ _. ⊥) tt).0
same_ascending (x ∷ v) (y ∷ w) r s f g =
    let not_sooner : before y x ≡ false = (f (λ (m : Message). before m x ≡ false) (before-self x, each-weaker (λ (m : Message). before x m ≡ true) (λ (m : Message). before m x ≡ false) (λ m h. before-one_way x m h) v r.0)).0 in
    let not_later : before x y ≡ false = (g (λ (m : Message). before m y ≡ false) (before-self y, each-weaker (λ (m : Message). before y m ≡ true) (λ (m : Message). before m y ≡ false) (λ m h. before-one_way y m h) w s.0)).0 in
    let same : x ≡ y = (f (λ (m : Message). before x m ≡ false → x ≡ m) ((λ _. refl), each-weaker (λ (m : Message). before x m ≡ true) (λ (m : Message). before x m ≡ false → x ≡ m) (λ m h k. absurd (both_ways m h k)) v r.0)).0 not_later in
    let rest : v ≡ w = same_ascending v w r.1 s.1 (λ P a. tail_each P x y v w same r s f a) (λ P a. tail_each P y x w v (sym same) s r g a) in
    λ i. same i ∷ rest i
  where
    both_ways : (m : Message) → before x m ≡ true → before x m ≡ false → ⊥
    both_ways m h k = cc

-- what a sort leaves of messages whose numbers rise is in_order of them
pub sorted_is_in_order : (w v : List Message) → IsRising w → IsPermutation w v → IsSortedBy before v → v ≡ in_order w
sorted_is_in_order w v r p s =
    let distinct = rising_distinct w r in
    let there = IsDistinct-IsPermutation same_number numbers-flip w v p distinct in
    same_ascending v (in_order w) (sorted_ascends v (sorted_far before before-order v s) there) (ascending-in_order w distinct)
    (λ P a. each-in_order P w (recursion_from_All P w (All-permutation P v w (IsPermutation-sym w v p) (All-from_recursion P v a))))
    (λ P a. recursion_from_All P v (All-permutation P w v p (All-from_recursion P w (in_order-each P w a))))
