-- Lemmas on the keys of two heaps as one list.
use Rattle.std.proofs.Common.{◌≡◌, ℕ, ◌<◌, IfNone, false, List, [], ◌∷◌, ◌++◌, Option, Some, None, IfSome, IsSome, length, get_or, drop, All, Bor, sym, refl, subst, arith}
use Rattle.std.specs.Ordering.{is_lt}
use Rattle.std.specs.BinaryHeap.{IsHeap, IsUpperBound}
use Rattle.std.specs.List.{AllByRecursion}
use Rattle.std.specs.List.Sorted.{IsPermutation}
use Rattle.std.proofs.lemmas.Bool.Decides.{nat_tests}
use Rattle.std.proofs.lemmas.List.Elements.{All-from_recursion, recursion_from_All}
use Rattle.std.proofs.lemmas.List.Sorted.{IsPermutation-refl, IsPermutation-sym, IsPermutation-trans, IsPermutation-cons, IsPermutation-to_front, IsPermutation-append_left, IsPermutation-append_right, All-permutation}
use Rattle.event_queue.specs.Keys.{Due, by_due}
use Rattle.event_queue.specs.Dues.{IsAhead, IsFirst, IsMoved}

-- a key amid others is moved to the front
two : (a b : Due) (v : List Due) → IsPermutation (a ∷ (b ∷ v)) (b ∷ (a ∷ v))
two a b v = IsPermutation-trans (a ∷ (b ∷ v)) ((b ∷ v) ++ a ∷ []) (b ∷ (a ∷ v)) (IsPermutation-sym ((b ∷ v) ++ a ∷ []) (a ∷ (b ∷ v)) (IsPermutation-to_front (b ∷ v) a)) (IsPermutation-cons b (v ++ a ∷ []) (a ∷ v) (IsPermutation-to_front v a))

to_front : (x : List Due) (d : Due) (v : List Due) → IsPermutation (x ++ d ∷ v) (d ∷ (x ++ v))
to_front [] d v = IsPermutation-refl (d ∷ v)
to_front (y ∷ x) d v = IsPermutation-trans (y ∷ (x ++ d ∷ v)) (y ∷ (d ∷ (x ++ v))) (d ∷ (y ∷ (x ++ v))) (IsPermutation-cons y (x ++ d ∷ v) (d ∷ (x ++ v)) (to_front x d v)) (two y d (x ++ v))

-- a key joins the first keys, or the last
pub joins_first : (d : Due) (v w x : List Due) → IsPermutation (d ∷ v) w → IsPermutation (d ∷ (v ++ x)) (w ++ x)
joins_first d v w x p = IsPermutation-append_left x (d ∷ v) w p

pub joins_last : (d : Due) (v w x : List Due) → IsPermutation (d ∷ v) w → IsPermutation (d ∷ (x ++ v)) (x ++ w)
joins_last d v w x p = IsPermutation-trans (d ∷ (x ++ v)) (x ++ d ∷ v) (x ++ w) (IsPermutation-sym (x ++ d ∷ v) (d ∷ (x ++ v)) (to_front x d v)) (IsPermutation-append_right x (d ∷ v) w p)

-- a key leaves the first keys, or the last
pub leaves_first : (o : Option Due) (v w x : List Due) → IfSome o (λ (d : Due). IsPermutation v (d ∷ w)) → IfSome o (λ (d : Due). IsPermutation (v ++ x) (d ∷ (w ++ x)))
leaves_first (Some d) v w x p = IsPermutation-append_left x v (d ∷ w) p
leaves_first None v w x p = tt

pub leaves_last : (o : Option Due) (v w x : List Due) → IfSome o (λ (d : Due). IsPermutation v (d ∷ w)) → IfSome o (λ (d : Due). IsPermutation (x ++ v) (d ∷ (x ++ w)))
leaves_last (Some d) v w x p = IsPermutation-trans (x ++ v) (x ++ d ∷ w) (d ∷ (x ++ w)) (IsPermutation-append_right x v (d ∷ w) p) (to_front x d w)
leaves_last None v w x p = tt

-- both lists in other orders
pub both_moved : (v w x y : List Due) → IsPermutation v w → IsPermutation x y → IsPermutation (v ++ x) (w ++ y)
both_moved v w x y p q = IsPermutation-trans (v ++ x) (w ++ x) (w ++ y) (IsPermutation-append_left x v w p) (IsPermutation-append_right w x y q)

-- what holds of all keys holds of the last
each_last : (P : Due → Type 0) (v x : List Due) → AllByRecursion P (v ++ x) → AllByRecursion P x
each_last P [] x a = a
each_last P (d ∷ v) x a = each_last P v x a.1

pub all_last : (P : Due → Type 0) (v x : List Due) → All P (v ++ x) → All P x
all_last P v x a = All-from_recursion P x (each_last P v x (recursion_from_All P (v ++ x) a))

-- no key of two lists is due before one that none of either is due before
both_bound : (d : Due) (v x : List Due) → IsUpperBound by_due d v → IsUpperBound by_due d x → IsUpperBound by_due d (v ++ x)
both_bound d [] x a b = b
both_bound d (y ∷ v) x a b = (a.0, both_bound d v x a.1 b)

-- of the tops of two heaps the one that is due first is due before no key of either
no_sooner : (e d y : Due) → is_lt (by_due e d) ≡ false → is_lt (by_due d y) ≡ false → is_lt (by_due e y) ≡ false
no_sooner e d y h k = grind (arith, nat_tests)

bound_further : (e d : Due) (v : List Due) → is_lt (by_due e d) ≡ false → IsUpperBound by_due d v → IsUpperBound by_due e v
bound_further e d [] h a = tt
bound_further e d (y ∷ v) h a = (no_sooner e d y h a.0, bound_further e d v h a.1)

pub ahead : (v w : List Due) (e d : Due) → 0 < length v → e ≡ get_or v 0 e → IsUpperBound by_due d w → is_lt (by_due e d) ≡ false → IsAhead v w
ahead [] w e d some top bound h = absurd (omega arith)
ahead (y ∷ v) w e d some top bound h = subst (λ (z : Due). IsUpperBound by_due z w) top (bound_further e d w h bound)

-- the top of the heap that is ahead is the first of all keys
first_of_first : (v x : List Due) (d : Due) → 0 < length v → d ≡ get_or v 0 d → IsUpperBound by_due d v → IsAhead v x → IsFirst (v ++ x) d
first_of_first [] x d some top bound a = absurd (omega arith)
first_of_first (y ∷ v) x d some top bound a = subst (λ (z : Due). IsFirst (y ∷ (v ++ x)) z) (sym top) (record {
  rest = v ++ x;
  split = IsPermutation-refl (y ∷ (v ++ x));
  first = both_bound y v x (subst (λ (z : Due). IsUpperBound by_due z v) top bound.1) a;
})

first_of_last : (v x : List Due) (d : Due) → 0 < length v → d ≡ get_or v 0 d → IsUpperBound by_due d v → IsAhead v x → IsFirst (x ++ v) d
first_of_last [] x d some top bound a = absurd (omega arith)
first_of_last (y ∷ v) x d some top bound a = subst (λ (z : Due). IsFirst (x ++ y ∷ v) z) (sym top) (record {
  rest = x ++ v;
  split = to_front x y v;
  first = both_bound y x v a (subst (λ (z : Due). IsUpperBound by_due z v) top bound.1);
})

pub peeked_first : (o : Option (Bor Due)) (v x : List Due) → (IsSome o → 0 < length v) → IfSome o (λ (d : Bor Due). d.now ≡ get_or v 0 d.now) → IfSome o (λ (d : Bor Due). IsHeap by_due v → IsUpperBound by_due d.now v) → IsHeap by_due v → IsAhead v x → IfSome o (λ (d : Bor Due). IsFirst (v ++ x) d.now)
peeked_first (Some d) v x some top bound h a = first_of_first v x d.now (some refl) top (bound h) a
peeked_first None v x some top bound h a = tt

pub peeked_last : (o : Option (Bor Due)) (v x : List Due) → (IsSome o → 0 < length v) → IfSome o (λ (d : Bor Due). d.now ≡ get_or v 0 d.now) → IfSome o (λ (d : Bor Due). IsHeap by_due v → IsUpperBound by_due d.now v) → IsHeap by_due v → IsAhead v x → IfSome o (λ (d : Bor Due). IsFirst (x ++ v) d.now)
peeked_last (Some d) v x some top bound h a = first_of_last v x d.now (some refl) top (bound h) a
peeked_last None v x some top bound h a = tt

-- it moves to its place under another time
pub moved_first : (o : Option Due) (v u x : List Due) (time : ℕ) → IfSome o (λ (d : Due). v ≡ d ∷ drop 1 v) → IfSome o (λ (d : Due). IsUpperBound by_due d (drop 1 v)) → IfSome o (λ (d : Due). IsPermutation (record { time = time; seq = d.seq; slot = d.slot } ∷ drop 1 v) u) → IsAhead v x → IfSome o (λ (d : Due). IsMoved (v ++ x) (u ++ x) d (record { time = time; seq = d.seq; slot = d.slot }))
moved_first (Some d) v u x time top bound p a = record {
  rest = drop 1 v ++ x;
  split = subst (λ (l : List Due). IsPermutation (v ++ x) (l ++ x)) top (IsPermutation-refl (v ++ x));
  first = both_bound d (drop 1 v) x bound (subst (λ (l : List Due). IsAhead l x) top a);
  moved = joins_first (record { time = time; seq = d.seq; slot = d.slot }) (drop 1 v) u x p;
}
moved_first None v u x time top bound p a = tt

pub moved_last : (o : Option Due) (v u x : List Due) (time : ℕ) → IfSome o (λ (d : Due). v ≡ d ∷ drop 1 v) → IfSome o (λ (d : Due). IsUpperBound by_due d (drop 1 v)) → IfSome o (λ (d : Due). IsPermutation (record { time = time; seq = d.seq; slot = d.slot } ∷ drop 1 v) u) → IsAhead v x → IfSome o (λ (d : Due). IsMoved (x ++ v) (x ++ u) d (record { time = time; seq = d.seq; slot = d.slot }))
moved_last (Some d) v u x time top bound p a = record {
  rest = x ++ drop 1 v;
  split = subst (λ (l : List Due). IsPermutation (x ++ l) (d ∷ (x ++ drop 1 v))) (sym top) (to_front x d (drop 1 v));
  first = both_bound d x (drop 1 v) (subst (λ (l : List Due). IsAhead l x) top a) bound;
  moved = joins_last (record { time = time; seq = d.seq; slot = d.slot }) (drop 1 v) u x p;
}
moved_last None v u x time top bound p a = tt

-- what holds of each slot stays as keys change places, as one leaves and as one is put off
pub each_permutation : (P : Due → Type 0) (v w : List Due) → IsPermutation v w → AllByRecursion P v → AllByRecursion P w
each_permutation P v w p a = recursion_from_All P w (All-permutation P v w p (All-from_recursion P v a))

pub kind_left : (P : Due → Type 0) (n k : ℕ) (o : Option Due) (v w : List Due) → IfSome o (λ (d : Due). IsPermutation v (d ∷ w)) → IfNone o ((w ≡ v) × (k ≡ n)) → AllByRecursion P v → AllByRecursion P w
kind_left P n k (Some d) v w p e a = (each_permutation P v (d ∷ w) p a).1
kind_left P n k None v w p e a = subst (λ (l : List Due). AllByRecursion P l) (sym e.0) a
