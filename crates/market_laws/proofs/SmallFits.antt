-- Books whose orders are in their ranges.
use Rattle.std.proofs.Common.{◌≡◌, ℕ, ◌+◌, ◌-◌, ◌<◌, ◌≤◌, Bool, true, ◌&&◌, List, [], ◌∷◌, ◌++◌, length, Some, Contains, slice_index_or, All, arith, sum_by}
use Rattle.std.specs.Prelude.{nat_le}
use Rattle.std.proofs.lemmas.Bool.{and_from, and_parts}
use Rattle.std.proofs.lemmas.Bool.Decides.{nat_tests}
use Rattle.std.proofs.lemmas.List.Elements.{All-from_recursion, All-nil, All-weaker}
use Rattle.market_types.specs.Limits.{highest_price}
use Rattle.market_types.specs.declared.order.Side.{Side}
use Rattle.market_types.specs.declared.order.Token.{Token}
use Rattle.price_time_book.specs.declared.resting.Resting.{Resting}
use Rattle.price_time_book.specs.Kept.{IsKeptByFills, IsKeptByReduce}
use Rattle.price_time_book.specs.Matched.{Matching, completed, matched}
use Rattle.price_time_book.specs.Next.{next_of}
use Rattle.price_time_book.specs.Orderly.{IsOrderly}
use Rattle.price_time_book.specs.Orders.{changed, order_of, order_with, reduced}
use Rattle.market_laws.specs.Small.{IsSmallOrder, IsUpTo, most_shares}

-- The laws of books that the ranges rest on, each a public law of the book.
pub record BookLaws : Type 0 where
  pub fills : (p : Resting → Bool) → IsKeptByFills p → (book : List Resting) (side : Side) (limit shares : ℕ) → All (λ o. p o ≡ true) book → All (λ f. p f.resting ≡ true) (matched book side limit shares).fills
  pub within : (book : List Resting) (side : Side) (limit shares : ℕ) → All (λ f. (f.shares ≤ f.resting.left) × (f.shares ≤ shares)) (matched book side limit shares).fills
  pub sums : (side : Side) (limit : ℕ) (m : Matching) → sum_by (λ f. f.shares) (completed side limit m).fills + (completed side limit m).shares ≡ sum_by (λ f. f.shares) m.fills + m.shares
  pub give : (book : List Resting) (side : Side) (limit shares : ℕ) → IsOrderly book → All (λ f. 0 < f.shares) (matched book side limit shares).fills
  pub held : (book : List Resting) (side : Side) (limit : ℕ) (o : Resting) → next_of book side limit ≡ Some o → Contains book o
  pub orderly : (side : Side) (limit : ℕ) (m : Matching) → IsOrderly m.book → IsOrderly (completed side limit m).book
  pub tested : (p : Resting → Bool) → IsKeptByFills p → (side : Side) (limit : ℕ) (m : Matching) → All (λ o. p o ≡ true) m.book → All (λ o. p o ≡ true) (completed side limit m).book
  pub few : (side : Side) (limit : ℕ) (m : Matching) → length (completed side limit m).book ≤ length m.book
  pub lower-tested : (p : Resting → Bool) → IsKeptByReduce p → (reference left : ℕ) (book : List Resting) (o : Resting) → order_with reference book ≡ Some o → left ≤ o.left → All (λ x. p x ≡ true) book → All (λ x. p x ≡ true) (changed (reduced left o) book)
  pub lower-few : (o : Resting) (book : List Resting) → length (changed o book) ≤ length book
  pub lowered : (reference left : ℕ) (book : List Resting) (o : Resting) → IsOrderly book → order_with reference book ≡ Some o → left < o.left → IsOrderly (changed (reduced left o) book)
  pub by-reference : (agent : ℕ) (token : Token) (book : List Resting) (o : Resting) → IsOrderly book → order_of agent token book ≡ Some o → order_with o.reference book ≡ Some o
  pub rested : (book : List Resting) (o : Resting) → IsOrderly book → All (λ x. x.reference < o.reference) book → 0 < o.left → o.left ≤ o.intended → length book < 4294967296 → IsOrderly (book ++ o ∷ [])

pub most-from : (most n : ℕ) → nat_le n most ≡ true → n ≤ most
most-from most n e = grind (arith, nat_tests)

pub most-is : (most n : ℕ) → n ≤ most → nat_le n most ≡ true
most-is most n h = grind (arith, nat_tests)

abbrev pub is_up_to : ℕ → ℕ → Bool
is_up_to most n = nat_le 1 n && nat_le n most

pub up-from : (most n : ℕ) → is_up_to most n ≡ true → IsUpTo most n
up-from most n e = let h = and_parts (nat_le 1 n) (nat_le n most) e in (most-from n 1 h.0, most-from most n h.1)

pub up-is : (most n : ℕ) → IsUpTo most n → is_up_to most n ≡ true
up-is most n h = and_from (nat_le 1 n) (nat_le n most) (most-is n 1 h.0) (most-is most n h.1)

pub up-more : (a b n : ℕ) → a ≤ b → IsUpTo a n → IsUpTo b n
up-more a b n le h = let first : 1 ≤ n = h.0 in let second : n ≤ a = h.1 in (first, omega (arith, le, second))

-- whether an order's reference, agent and price are in their ranges, which matches and Cancels leave as they are
abbrev pub is_fit : ℕ → ℕ → Resting → Bool
is_fit traders accepted o = is_up_to accepted o.reference && (is_up_to traders o.agent && is_up_to highest_price o.price)

-- whether its intended size is
abbrev pub is_sized : Resting → Bool
is_sized o = nat_le o.intended most_shares

-- What the first test says.
pub record IsFit (traders accepted : ℕ) (o : Resting) : Type 0 where
  pub reference : IsUpTo accepted o.reference
  pub agent : IsUpTo traders o.agent
  pub price : IsUpTo highest_price o.price

pub fit-from : (traders accepted : ℕ) (o : Resting) → is_fit traders accepted o ≡ true → IsFit traders accepted o
fit-from traders accepted o e =
    let h = and_parts (is_up_to accepted o.reference) (is_up_to traders o.agent && is_up_to highest_price o.price) e in
    let k = and_parts (is_up_to traders o.agent) (is_up_to highest_price o.price) h.1 in
    record { reference = up-from accepted o.reference h.0; agent = up-from traders o.agent k.0; price = up-from highest_price o.price k.1 }

pub fit-is : (traders accepted : ℕ) (o : Resting) → IsFit traders accepted o → is_fit traders accepted o ≡ true
fit-is traders accepted o h =
    and_from (is_up_to accepted o.reference) (is_up_to traders o.agent && is_up_to highest_price o.price) (up-is accepted o.reference h.reference)
    (and_from (is_up_to traders o.agent) (is_up_to highest_price o.price) (up-is traders o.agent h.agent) (up-is highest_price o.price h.price))

pub fit-more : (traders a b : ℕ) (o : Resting) → a ≤ b → is_fit traders a o ≡ true → is_fit traders b o ≡ true
fit-more traders a b o le e =
    let h = fit-from traders a o e in
    fit-is traders b o (record { reference = up-more a b o.reference le h.reference; agent = h.agent; price = h.price })

pub fits-more : (traders a b : ℕ) (book : List Resting) → a ≤ b → All (λ o. is_fit traders a o ≡ true) book → All (λ o. is_fit traders b o ≡ true) book
fits-more traders a b book le h = All-weaker (λ (o : Resting). is_fit traders a o ≡ true) (λ (o : Resting). is_fit traders b o ≡ true) (λ o e. fit-more traders a b o le e) book h

pub fits-by-fills : (traders accepted : ℕ) → IsKeptByFills (is_fit traders accepted)
fits-by-fills traders accepted = λ o left le e. e

pub fits-by-reduce : (traders accepted : ℕ) → IsKeptByReduce (is_fit traders accepted)
fits-by-reduce traders accepted = λ o left le e. e

pub sizes-by-fills : IsKeptByFills is_sized
sizes-by-fills = λ o left le e. e

less-sized : (n d : ℕ) → nat_le n most_shares ≡ true → nat_le (n - d) most_shares ≡ true
less-sized n d e = let h = most-from most_shares n e in most-is most_shares (n - d) (omega (arith, h))

pub sizes-by-reduce : IsKeptByReduce is_sized
sizes-by-reduce = λ o left le e. less-sized o.intended (o.left - left) e

-- A book of orders in their ranges.
pub record IsFitBook (traders accepted : ℕ) (book : List Resting) : Type 0 where
  pub orderly : IsOrderly book
  pub fits : All (λ o. is_fit traders accepted o ≡ true) book
  pub sizes : All (λ o. is_sized o ≡ true) book

pub book-more : (traders a b : ℕ) (book : List Resting) → a ≤ b → IsFitBook traders a book → IsFitBook traders b book
book-more traders a b book le h = record { orderly = h.orderly; fits = fits-more traders a b book le h.fits; sizes = h.sizes }

pub book-nil : (traders : ℕ) → IsFitBook traders 0 []
book-nil traders = record {
  orderly = record { rising = tt; live = tt; within = tt; few = omega arith };
  fits = All-nil (λ (o : Resting). is_fit traders 0 o ≡ true);
  sizes = All-nil (λ (o : Resting). is_sized o ≡ true);
}

-- each of its orders is small
pub small-orders : (traders accepted : ℕ) (book : List Resting) → IsFitBook traders accepted book → All (IsSmallOrder traders accepted) book
small-orders traders accepted book h =
    let live : All (λ (o : Resting). 0 < o.left) book = All-from_recursion (λ (o : Resting). 0 < o.left) book h.orderly.live in
    let within : All (λ (o : Resting). o.left ≤ o.intended) book = All-from_recursion (λ (o : Resting). o.left ≤ o.intended) book h.orderly.within in
    λ i d in'.
    let o = slice_index_or book i d in
    let fit = fit-from traders accepted o (h.fits i d in') in
    let some : 0 < o.left = live i d in' in
    record {
      reference = fit.reference;
      agent = fit.agent;
      price = fit.price;
      intended = most-from most_shares o.intended (h.sizes i d in');
      left = (omega (arith, some), within i d in');
    }
