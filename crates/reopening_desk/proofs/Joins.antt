-- A file's orders behind those of a book.
use Rattle.std.proofs.Common.{◌≡◌, ◌≤◌, ◌<◌, ◌∙◌, ℕ, zero, suc, ◌+◌, ◌++◌, List, [], ◌∷◌, append_assoc, ap, get_or, length, map, subst, sym, take, All, arith}
use Rattle.std.specs.List.{AllByRecursion}
use Rattle.std.proofs.lemmas.List.{length-append, length-map, map-append, take_more}
use Rattle.std.proofs.lemmas.List.Elements.{All-append, All-from_recursion, recursion_from_All}
use Rattle.reopen_cross.specs.declared.cross.Interest.{Interest}
use Rattle.reopen_cross.specs.Orderly.{AreInterests, IsRising}
use Rattle.market_types.specs.Limits.{highest_price}
use Rattle.reopening_desk.specs.Filed.{AreFiled, AreNumbered, numbered_after}
use Rattle.reopening_desk.proofs.Filed.{above, rising}

numbers-move : (last n : ℕ) (os : List Interest) → AreNumbered n os → AreNumbered (last + n) (map (numbered_after last) os)
numbers-move last n [] h = tt
numbers-move last n (o ∷ os) h =
    (omega (arith, h.0), subst (λ (m : ℕ). AreNumbered m (map (numbered_after last) os)) (omega arith) (numbers-move last (n + 1) os h.1))

each-mapped : (P : Interest → Type 0) (f : Interest → Interest) (os : List Interest) → AllByRecursion (λ (o : Interest). P (f o)) os → AllByRecursion P (map f os)
each-mapped P f [] h = tt
each-mapped P f (o ∷ os) h = (h.0, each-mapped P f os h.1)

-- what is true of each order whatever its number is
kept : (P : Interest → Type 0) (last : ℕ) (os : List Interest) → All (λ (o : Interest). P (numbered_after last o)) os → All P (map (numbered_after last) os)
kept P last os h =
    All-from_recursion P (map (numbered_after last) os)
    (each-mapped P (numbered_after last) os (recursion_from_All (λ (o : Interest). P (numbered_after last o)) os h))

each-later : (m last : ℕ) (os : List Interest) → m ≤ last → AllByRecursion (λ (o : Interest). last < o.reference) os → AllByRecursion (λ (o : Interest). m < o.reference) os
each-later m last [] low h = tt
each-later m last (o ∷ os) low h = (omega (arith, low, h.0), each-later m last os low h.1)

each-append : (P : Interest → Type 0) (a b : List Interest) → AllByRecursion P a → AllByRecursion P b → AllByRecursion P (a ++ b)
each-append P [] b h k = k
each-append P (o ∷ a) b h k = (h.0, each-append P a b h.1 k)

rising-append : (last : ℕ) (a b : List Interest) → IsRising a → AllByRecursion (λ (o : Interest). o.reference ≤ last) a
    → IsRising b → AllByRecursion (λ (o : Interest). last < o.reference) b → IsRising (a ++ b)
rising-append last [] b ra low rb high = rb
rising-append last (o ∷ a) b ra low rb high = (
  each-append (λ (x : Interest). o.reference < x.reference) a b ra.0 (each-later o.reference last b low.0 high),
  rising-append last a b ra.1 low.1 rb high,
)

pub file-joins : (book os : List Interest) (last : ℕ) → AreInterests book → length book ≤ 16384 → All (λ (o : Interest). o.reference ≤ last) book
    → AreFiled os → AreInterests (book ++ map (numbered_after last) os)
file-joins book os last a few low f =
    let more : List Interest = map (numbered_after last) os in
    let numbered : AreNumbered (last + 1) more = numbers-move last 1 os f.numbered in record {
      few = omega (arith, few, f.few, length-append book more, length-map os (numbered_after last));
      rising = rising-append last book more a.rising (recursion_from_All (λ (o : Interest). o.reference ≤ last) book low)
          (rising (last + 1) more numbered) (above last (last + 1) more (omega arith) numbered);
      some = All-append (λ (o : Interest). 1 ≤ o.left) book more a.some (kept (λ (o : Interest). 1 ≤ o.left) last os f.interests.some);
      small = All-append (λ (o : Interest). o.left ≤ 999999) book more a.small (kept (λ (o : Interest). o.left ≤ 999999) last os f.interests.small);
      priced = All-append (λ (o : Interest). 1 ≤ o.price) book more a.priced (kept (λ (o : Interest). 1 ≤ o.price) last os f.interests.priced);
      within = All-append (λ (o : Interest). o.price ≤ highest_price) book more a.within (kept (λ (o : Interest). o.price ≤ highest_price) last os f.interests.within);
    }

-- the number of the order at a place
number-at : (n : ℕ) (os : List Interest) (i : ℕ) (d : Interest) → i < length os → AreNumbered n os → (get_or os i d).reference ≡ n + i
number-at n [] i d low h = absurd (omega (arith, low))
number-at n (o ∷ os) zero d low h = omega (arith, h.0)
number-at n (o ∷ os) (suc i) d low h = omega (arith, number-at (n + 1) os i d (omega (arith, low)) h.1)

pub low-number : (os : List Interest) (i : ℕ) (d : Interest) → i < length os → AreFiled os → (get_or os i d).reference ≤ 16384
low-number os i d low f = omega (arith, low, f.few, number-at 1 os i d low f.numbered)

-- one order more
pub one-more : (last : ℕ) (book os : List Interest) (i : ℕ) (d : Interest) → i < length os
    → (book ++ map (numbered_after last) (take i os)) ++ numbered_after last (get_or os i d) ∷ [] ≡ book ++ map (numbered_after last) (take (i + 1) os)
one-more last book os i d low =
    append_assoc book (map (numbered_after last) (take i os)) (numbered_after last (get_or os i d) ∷ [])
    ∙ ap (λ (xs : List Interest). book ++ xs)
    (sym (map-append (numbered_after last) (take i os) (get_or os i d ∷ [])) ∙ ap (map (numbered_after last)) (sym (take_more os i d low)))
