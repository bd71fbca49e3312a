-- The orders of a book as interest.
use Rattle.std.proofs.Common.{◌≡◌, ◌≤◌, ◌<◌, ◌∙◌, ℕ, ◌+◌, List, [], ◌∷◌, ◌++◌, length, map, take, get_or, All, ap, sym, arith}
use Rattle.std.specs.List.{AllByRecursion}
use Rattle.std.proofs.lemmas.List.{length-map, map-append, take_more}
use Rattle.std.proofs.lemmas.List.Elements.{All-map, All-weaker}
use Rattle.market_types.specs.Limits.{highest_price}
use Rattle.price_time_book.specs.declared.resting.Resting.{Resting}
use Rattle.price_time_book.specs.Orderly.{IsRising as IsRisingBook}
use Rattle.exchange_agent.specs.State.{Stock}
use Rattle.market_laws.specs.Small.{IsSmallOrder, IsSmallStock, most_resting}
use Rattle.reopen_cross.specs.declared.cross.Interest.{Interest}
use Rattle.reopen_cross.specs.Orderly.{AreInterests, IsRising}
use Rattle.reopening_desk.specs.Books.{AreResting, IsResting}
use Rattle.reopening_desk.specs.Reopened.{interest_of}

-- ---- a book of a small exchange

resting-order : (traders accepted : ℕ) (o : Resting) → IsSmallOrder traders accepted o → IsResting accepted o
resting-order traders accepted o h = record {
  reference = h.reference.1;
  left = (h.left.0, omega (arith, h.left.1, h.intended));
  price = h.price;
}

pub are-resting : (traders accepted : ℕ) (k : Stock) → IsSmallStock traders accepted k → length k.book ≤ most_resting → AreResting accepted k.book
are-resting traders accepted k h few = record {
  few = few;
  rising = h.rising;
  orders = All-weaker (IsSmallOrder traders accepted) (IsResting accepted) (λ o q. resting-order traders accepted o q) k.book h.orders;
}

-- ---- the same orders as interest

later : (n : ℕ) (book : List Resting) → AllByRecursion (λ (o : Resting). n < o.reference) book → AllByRecursion (λ (o : Interest). n < o.reference) (map interest_of book)
later n [] h = h
later n (o ∷ os) h = (h.0, later n os h.1)

rising : (book : List Resting) → IsRisingBook book → IsRising (map interest_of book)
rising [] h = h
rising (o ∷ os) h = (later o.reference os h.0, rising os h.1)

all-of : (P : Interest → Type 0) (accepted : ℕ) (book : List Resting) → ((o : Resting) → IsResting accepted o → P (interest_of o)) → All (IsResting accepted) book → All P (map interest_of book)
all-of P accepted book each h = All-map P interest_of book (All-weaker (IsResting accepted) (λ (o : Resting). P (interest_of o)) each book h)

pub few-interests : (accepted : ℕ) (book : List Resting) → AreResting accepted book → length (map interest_of book) ≤ 16384
few-interests accepted book h = omega (arith, length-map book interest_of, h.few)

pub last-interests : (accepted : ℕ) (book : List Resting) → AreResting accepted book → All (λ (o : Interest). o.reference ≤ accepted) (map interest_of book)
last-interests accepted book h = all-of (λ (o : Interest). o.reference ≤ accepted) accepted book (λ o q. q.reference) h.orders

pub are-interests : (accepted : ℕ) (book : List Resting) → AreResting accepted book → AreInterests (map interest_of book)
are-interests accepted book h = record {
  few = omega (arith, few-interests accepted book h);
  rising = rising book h.rising;
  some = all-of (λ (o : Interest). 1 ≤ o.left) accepted book (λ o q. q.left.0) h.orders;
  small = all-of (λ (o : Interest). o.left ≤ 999999) accepted book (λ o q. q.left.1) h.orders;
  priced = all-of (λ (o : Interest). 1 ≤ o.price) accepted book (λ o q. q.price.0) h.orders;
  within = all-of (λ (o : Interest). o.price ≤ highest_price) accepted book (λ o q. q.price.1) h.orders;
}

-- one order more
pub one-more : (orders : List Resting) (i : ℕ) (d : Resting) (list : List Interest) → i < length orders → list ≡ map interest_of (take i orders)
    → list ++ interest_of (get_or orders i d) ∷ [] ≡ map interest_of (take (i + 1) orders)
one-more orders i d list low same =
    ap (λ (xs : List Interest). xs ++ interest_of (get_or orders i d) ∷ []) same
    ∙ sym (map-append interest_of (take i orders) (get_or orders i d ∷ [])) ∙ ap (map interest_of) (sym (take_more orders i d low))
