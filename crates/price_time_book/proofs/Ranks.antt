-- Which of two orders of a side comes first, by one number for each order.
use Rattle.std.proofs.Common.{◌≡◌, ◌≢◌, ℕ, ◌+◌, ◌*◌, Bool, true, false, not, ◌&&◌, ◌||◌, ltb, eqb, refl, sym, ap, ◌∙◌, arith, inl, inr}
use Rattle.std.proofs.lemmas.Bool.{cases_eq, cases_lt, eq-eqb, ne_eqb}
use Rattle.std.proofs.lemmas.Bool.Decides.{nat_tests}
use Rattle.market_types.specs.declared.order.Side.{Side}
use Rattle.market_types.specs.declared.order.Side.TheVariants.{Buy, Sell}
use Rattle.price_time_book.specs.declared.resting.Resting.{Resting}
use Rattle.price_time_book.specs.Indexed.{hidden_bit}
use Rattle.price_time_book.specs.Next.{beats}
use Rattle.price_time_book.specs.Sides.{is_better}

-- ---- tests
or_none : (c e : Bool) → (c || (e && false)) ≡ c
or_none true e = refl
or_none false true = refl
or_none false false = refl

or_same : (c e x y : Bool) → x ≡ y → (c || (e && (x && not y))) ≡ c
or_same c e true true h = or_none c e
or_same c e true false h = absurd (cc h)
or_same c e false y h = or_none c e

pub or_first : (c d : Bool) → (c || d) ≡ false → c ≡ false
or_first true d e = absurd (cc e)
or_first false d e = refl

pub or_last : (c e x y : Bool) → (c || (e && (x && not y))) ≡ false → e ≡ true → x ≡ true → y ≡ true
or_last c e x true h k l = refl
or_last true e x false h k l = absurd (cc h)
or_last false true true false h k l = absurd (cc h)
or_last false true false false h k l = absurd (cc l)
or_last false false x false h k l = absurd (cc k)

-- ---- one number for price and whether an order is shown
abbrev pub shown_bit : Bool → ℕ
shown_bit true = 1
shown_bit false = 0

abbrev pub rank_by : Side → ℕ → Bool → ℕ
rank_by Buy price shown = 2 * price + shown_bit shown
rank_by Sell price shown = 2 * price + hidden_bit shown

abbrev pub rank : Side → Resting → ℕ
rank s o = rank_by s o.price o.shown

twice : (p q k : ℕ) → ltb q p ≡ ltb (2 * q + k) (2 * p + k)
twice p q k = grind (arith, nat_tests)

behind_tie : (p q : ℕ) → ltb q p ≡ ltb (2 * q + 1) (2 * p + 0)
behind_tie p q = grind (arith, nat_tests)

before_tie : (p q : ℕ) (e : Bool) → e ≡ eqb p q → (ltb q p || (e && true)) ≡ ltb (2 * q + 0) (2 * p + 1)
before_tie p q e k =
    elim (cases_lt q p) [
      | inl h ↦
          let t : ltb q p ≡ true = grind (arith, nat_tests) in
          let u : ltb (2 * q + 0) (2 * p + 1) ≡ true = grind (arith, nat_tests) in
          ap (λ c. c || (e && true)) t ∙ sym u
      | inr h ↦
          let t : ltb q p ≡ false = grind (arith, nat_tests) in
          ap (λ c. c || (e && true)) t ∙ (elim (cases_eq p q) [
            | inl g ↦
                let u : ltb (2 * q + 0) (2 * p + 1) ≡ true = grind (arith, nat_tests) in
                ap (λ c. c && true) (k ∙ eq-eqb p q g) ∙ sym u
            | inr g ↦
                let u : ltb (2 * q + 0) (2 * p + 1) ≡ false = grind (arith, nat_tests) in
                ap (λ c. c && true) (k ∙ ne_eqb p q g) ∙ sym u
          ])
    ]

ranks : (s : Side) (p q : ℕ) (x y : Bool) → (is_better s p q || (eqb p q && (x && not y))) ≡ is_better s (rank_by s p x) (rank_by s q y)
ranks Buy p q true true = or_none (ltb q p) (eqb p q) ∙ twice p q 1
ranks Buy p q true false = before_tie p q (eqb p q) refl
ranks Buy p q false true = or_none (ltb q p) (eqb p q) ∙ behind_tie p q
ranks Buy p q false false = or_none (ltb q p) (eqb p q) ∙ twice p q 0
ranks Sell p q true true = or_none (ltb p q) (eqb p q) ∙ twice q p 0
ranks Sell p q true false = before_tie q p (eqb p q) (same p q)
  where
    same : (p q : ℕ) → eqb p q ≡ eqb q p
    same p q = grind (arith, nat_tests)
ranks Sell p q false true = or_none (ltb p q) (eqb p q) ∙ behind_tie q p
ranks Sell p q false false = or_none (ltb p q) (eqb p q) ∙ twice q p 1

pub beats_rank : (s : Side) (a b : Resting) → beats s a b ≡ is_better s (rank s a) (rank s b)
beats_rank s a b = ranks s a.price b.price a.shown b.shown

-- a hidden order comes before another only at a better price, and so does one of the same kind
pub beats_hidden : (s : Side) (a b : Resting) → a.shown ≡ false → beats s a b ≡ is_better s a.price b.price
beats_hidden s a b e = ap (λ x. is_better s a.price b.price || (eqb a.price b.price && (x && not b.shown))) e ∙ or_none (is_better s a.price b.price) (eqb a.price b.price)

pub beats_same : (s : Side) (a b : Resting) → a.shown ≡ b.shown → beats s a b ≡ is_better s a.price b.price
beats_same s a b e = or_same (is_better s a.price b.price) (eqb a.price b.price) a.shown b.shown e

-- a shown and a hidden order never have one rank
pub ranks_apart : (s : Side) (a b : Resting) → a.shown ≡ true → b.shown ≡ false → rank s a ≢ rank s b
ranks_apart Buy a b e f q = omega (arith, q, ap shown_bit e, ap shown_bit f)
ranks_apart Sell a b e f q = omega (arith, q, ap hidden_bit e, ap hidden_bit f)

-- ---- numbers of a side
-- what isn't better than another isn't better than one that is no worse
pub no_better : (side : Side) (a b c : ℕ) → is_better side a b ≡ false → is_better side b c ≡ false → is_better side a c ≡ false
no_better Buy a b c h k = buys a b c h k
  where
    buys : (a b c : ℕ) → ltb b a ≡ false → ltb c b ≡ false → ltb c a ≡ false
    buys a b c h k = grind (arith, nat_tests)
no_better Sell a b c h k = sells a b c h k
  where
    sells : (a b c : ℕ) → ltb a b ≡ false → ltb b c ≡ false → ltb a c ≡ false
    sells a b c h k = grind (arith, nat_tests)

pub one_way : (side : Side) (a b : ℕ) → is_better side a b ≡ true → is_better side b a ≡ false
one_way Buy a b h = way b a h
  where
    way : (a b : ℕ) → ltb a b ≡ true → ltb b a ≡ false
    way a b h = grind (arith, nat_tests)
one_way Sell a b h = way a b h
  where
    way : (a b : ℕ) → ltb a b ≡ true → ltb b a ≡ false
    way a b h = grind (arith, nat_tests)

pub itself : (side : Side) (a : ℕ) → is_better side a a ≡ false
itself Buy a = same a
  where
    same : (a : ℕ) → ltb a a ≡ false
    same a = grind (arith, nat_tests)
itself Sell a = same a
  where
    same : (a : ℕ) → ltb a a ≡ false
    same a = grind (arith, nat_tests)

-- what is no better than a third is no better than one that is
pub behind : (side : Side) (a b c : ℕ) → is_better side b c ≡ true → is_better side a c ≡ false → is_better side a b ≡ false
behind side a b c h k = no_better side a c b k (one_way side b c h)

pub better_through : (side : Side) (a b c : ℕ) → is_better side a b ≡ true → is_better side b c ≡ true → is_better side a c ≡ true
better_through Buy a b c h k = way a b c h k
  where
    way : (a b c : ℕ) → ltb b a ≡ true → ltb c b ≡ true → ltb c a ≡ true
    way a b c h k = grind (arith, nat_tests)
better_through Sell a b c h k = way a b c h k
  where
    way : (a b c : ℕ) → ltb a b ≡ true → ltb b c ≡ true → ltb a c ≡ true
    way a b c h k = grind (arith, nat_tests)

-- of two numbers one is better
pub either : (side : Side) (a b : ℕ) → a ≢ b → is_better side a b ≡ false → is_better side b a ≡ true
either Buy a b n h = way a b n h
  where
    way : (a b : ℕ) → a ≢ b → ltb b a ≡ false → ltb a b ≡ true
    way a b n h = grind (arith, nat_tests)
either Sell a b n h = way a b n h
  where
    way : (a b : ℕ) → a ≢ b → ltb a b ≡ false → ltb b a ≡ true
    way a b n h = grind (arith, nat_tests)

-- what is better than another is better than one that isn't
pub through_no_worse : (side : Side) (a b c : ℕ) → is_better side a b ≡ true → is_better side c b ≡ false → is_better side a c ≡ true
through_no_worse Buy a b c h k = way a b c h k
  where
    way : (a b c : ℕ) → ltb b a ≡ true → ltb b c ≡ false → ltb c a ≡ true
    way a b c h k = grind (arith, nat_tests)
through_no_worse Sell a b c h k = way a b c h k
  where
    way : (a b c : ℕ) → ltb a b ≡ true → ltb c b ≡ false → ltb a c ≡ true
    way a b c h k = grind (arith, nat_tests)

-- what is no worse than one that is better than another is better than that
pub no_worse_through : (side : Side) (a b c : ℕ) → is_better side a b ≡ true → is_better side a c ≡ false → is_better side c b ≡ true
no_worse_through Buy a b c h k = way a b c h k
  where
    way : (a b c : ℕ) → ltb b a ≡ true → ltb c a ≡ false → ltb b c ≡ true
    way a b c h k = grind (arith, nat_tests)
no_worse_through Sell a b c h k = way a b c h k
  where
    way : (a b c : ℕ) → ltb a b ≡ true → ltb a c ≡ false → ltb c b ≡ true
    way a b c h k = grind (arith, nat_tests)
