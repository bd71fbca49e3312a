-- Each match ends an order: the one that rested, or the incoming one.
use Rattle.std.proofs.Common.{◌≡◌, ◌≢◌, ℕ, zero, suc, ◌+◌, ◌-◌, ◌<◌, ◌≤◌, Bool, true, false, cond, List, [], ◌∷◌, ◌++◌, length, slice_index_or, Option, Some, None, inl, inr, Contains, arith, refl, ap, subst, sym, ◌∙◌}
use Rattle.std.specs.Prelude.{◌==◌, not, min, if◌then◌else◌}
use Rattle.std.proofs.lemmas.Bool.{cases_lt, false≢true}
use Rattle.std.proofs.lemmas.Bool.Decides.{nat_tests}
use Rattle.std.proofs.lemmas.List.{length-append}
use Rattle.std.proofs.lemmas.List.Sums.{count_by-le-length, length-filter}
use Rattle.market_types.specs.declared.order.Side.{Side}
use Rattle.price_time_book.specs.declared.resting.Fill.{Fill}
use Rattle.price_time_book.specs.declared.resting.Resting.{Resting}
use Rattle.price_time_book.specs.Matched.{Matching, after_fill, fill_of, matched, matched_by, with_fill, with_next}
use Rattle.price_time_book.specs.Next.{next_of}
use Rattle.price_time_book.specs.Orders.{changed, without}

-- What it rests on, each a public law of the book.
pub record CountLaws : Type 0 where
  pub held : (book : List Resting) (side : Side) (limit : ℕ) (o : Resting) → next_of book side limit ≡ Some o → Contains book o
  pub lower-few : (o : Resting) (book : List Resting) → length (changed o book) ≤ length book

few-without : (reference : ℕ) (book : List Resting) → length (without reference book) ≤ length book
few-without reference book =
    let p = λ (o : Resting). not (o.reference == reference) in
    omega (arith, length-filter p book, count_by-le-length p book)

kept-more : (b : Bool) (x : Resting) (xs : List Resting) → length (cond b (x ∷ xs) xs) ≤ length xs + 1
kept-more true x xs = omega arith
kept-more false x xs = omega arith

left-out : (b : Bool) (x : Resting) (xs : List Resting) → b ≡ false → length (cond b (x ∷ xs) xs) ≡ length xs
left-out true x xs e = absurd cc
left-out false x xs e = refl

not-this : (m n : ℕ) → m ≡ n → not (m == n) ≡ false
not-this m n e = grind (arith, nat_tests)

-- an order that the book has leaves
fewer-without : (reference : ℕ) (book : List Resting) (k : ℕ) (d : Resting) → k < length book → (slice_index_or book k d).reference ≡ reference → length (without reference book) + 1 ≤ length book
fewer-without reference [] k d in' e = absurd (omega (arith, in'))
fewer-without reference (x ∷ xs) zero d in' e =
    let out : length (without reference (x ∷ xs)) ≡ length (without reference xs) = left-out (not (x.reference == reference)) x (without reference xs) (not-this x.reference reference e) in
    omega (arith, out, few-without reference xs)
fewer-without reference (x ∷ xs) (suc k) d in' e =
    let rest : length (without reference xs) + 1 ≤ length xs = fewer-without reference xs k d (omega (arith, in')) e in
    let more : length (without reference (x ∷ xs)) ≤ length (without reference xs) + 1 = kept-more (not (x.reference == reference)) x (without reference xs) in
    omega (arith, rest, more)

-- an incoming order counts while it wants shares
abbrev pub one_if : ℕ → ℕ
one_if shares = if shares == 0 then 0 else 1

zero-from : (n : ℕ) → (n == 0) ≡ true → n ≡ 0
zero-from n e = grind (arith, nat_tests)

pub one-if-some : (n : ℕ) → n ≢ 0 → one_if n ≡ 1
one-if-some n some =
    elim (n == 0) as (λ b. (n == 0) ≡ b → ◌≡◌ {A = ℕ} (if b then 0 else 1) 1) [ true ↦ λ e. absurd (some (zero-from n e)) | false ↦ λ e. refl ] refl

one-if-most : (n : ℕ) → one_if n ≤ 1
one-if-most n = elim (n == 0) as (λ b. (if b then 0 else 1) ≤ 1) [ true ↦ omega arith | false ↦ omega arith ]

one-if-none : (n : ℕ) → n ≡ 0 → one_if n ≡ 0
one-if-none n e = ap one_if e

-- the fills so far, the orders that rest, and the incoming one
abbrev pub size_of : Matching → ℕ
size_of m = length m.fills + length m.book + one_if m.shares

fill-ends : (laws : CountLaws) (m : Matching) (o : Resting) → Contains m.book o → m.shares ≢ 0 → size_of (with_fill (fill_of m.shares o) m) ≤ size_of m
fill-ends laws m o held some =
    let f = fill_of m.shares o in
    let one : length (m.fills ++ f ∷ []) ≡ length m.fills + 1 = omega (arith, length-append {A = Fill}) in
    let wants : one_if m.shares ≡ 1 = one-if-some m.shares some in
    elim (cases_lt m.shares o.left) as (λ c. size_of (with_fill f m) ≤ size_of m) [
      | inl more ↦
          let none : m.shares - min o.left m.shares ≡ 0 = omega (arith, more) in
          let done : one_if (m.shares - min o.left m.shares) ≡ 0 = one-if-none (m.shares - min o.left m.shares) none in
          let few : length (after_fill f m.book) ≤ length m.book = laws.lower-few (record o { left = o.left - min o.left m.shares }) m.book in
          omega (arith, one, wants, done, few)
      | inr le ↦
          let none : o.left - min o.left m.shares ≡ 0 = omega (arith, le) in
          let leaves : after_fill f m.book ≡ without o.reference m.book = ap (λ (n : ℕ). changed (record o { left = n }) m.book) none in
          let same : length (after_fill f m.book) ≡ length (without o.reference m.book) = ap (λ (b : List Resting). length b) leaves in
          let fewer : length (without o.reference m.book) + 1 ≤ length m.book = fewer-without o.reference m.book held.0 o held.1 (ap (λ (x : Resting). x.reference) held.2) in
          let most : one_if (m.shares - min o.left m.shares) ≤ 1 = one-if-most (m.shares - min o.left m.shares) in
          omega (arith, one, wants, same, fewer, most)
    ]

pub some-from : (m : ℕ) → (m == 0) ≡ false → m ≢ 0
some-from m e = λ (q : m ≡ 0). absurd (false≢true (sym e ∙ subst (λ (k : ℕ). (k == 0) ≡ true) (sym q) refl))

next-ends : (laws : CountLaws) (m : Matching) (q : Option Resting) → ((o : Resting) → q ≡ Some o → Contains m.book o) → size_of (with_next q m) ≤ size_of m
next-ends laws m None held = omega arith
next-ends laws m (Some o) held =
    elim (m.shares == 0) as (λ b. (m.shares == 0) ≡ b → size_of (if b then m else with_fill (fill_of m.shares o) m) ≤ size_of m) [
      | true ↦ λ e. omega arith
      | false ↦ λ e. fill-ends laws m o (held o refl) (some-from m.shares e)
    ] refl

ends-by : (laws : CountLaws) (n : ℕ) (side : Side) (limit : ℕ) (m : Matching) → size_of (matched_by n side limit m) ≤ size_of m
ends-by laws zero side limit m = omega arith
ends-by laws (suc n) side limit m =
    let k = with_next (next_of m.book side limit) m in
    let one : size_of k ≤ size_of m = next-ends laws m (next_of m.book side limit) (λ o e. laws.held m.book side limit o e) in
    let rest : size_of (matched_by n side limit k) ≤ size_of k = ends-by laws n side limit k in
    omega (arith, one, rest)

-- after the whole way of an incoming order
pub matched-ends : (laws : CountLaws) (book : List Resting) (side : Side) (limit shares : ℕ) → size_of (matched book side limit shares) ≤ length book + 1
matched-ends laws book side limit shares =
    let m : Matching = record { fills = []; book = book; shares = shares } in
    let all : size_of (matched book side limit shares) ≤ 0 + length book + one_if shares = ends-by laws (length book) side limit m in
    omega (arith, all, one-if-most shares)
