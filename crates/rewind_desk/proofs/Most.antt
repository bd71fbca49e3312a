-- The greatest count among keys that pass a test.
use Rattle.std.proofs.Common.{◌≡◌, ◌≤◌, ℕ, Bool, true, false, ◌||◌, ◌&&◌, ◌⊎◌, inl, inr, List, [], ◌∷◌, ◌++◌, refl, sym, ap, ◌∙◌, arith, true≢false}
use Rattle.std.specs.Prelude.{max, if◌then◌else◌}
use Rattle.shelf_core.specs.declared.plan.Key.{Key}
use Rattle.shelf_core.specs.Plan.{is_in, same_key}
use Rattle.shelf_core.proofs.Plans.{key_is, key_self, or_either}
use Rattle.rewind_desk.specs.Best.{most_among}

pub and-true : (a b : Bool) → a ≡ true → b ≡ true → (a && b) ≡ true
and-true a b h k = rw h k

pub and-false : (a b : Bool) → b ≡ false → (a && b) ≡ false
and-false true b h = h
and-false false b h = refl

or_right : (a b : Bool) → b ≡ true → (a || b) ≡ true
or_right true b i = refl
or_right false b i = i

in-first : (k : Key) (ks : List Key) → is_in k (k ∷ ks) ≡ true
in-first k ks = ap (λ (t : Bool). t || is_in k ks) (key_self k)

-- a key of two lists is one of the first or of the second
pub in-either : (k : Key) (xs ys : List Key) → is_in k (xs ++ ys) ≡ true → (is_in k xs ≡ true) ⊎ (is_in k ys ≡ true)
in-either k [] ys h = inr h
in-either k (x ∷ xs) ys h = elim (or_either (same_key x k) (is_in k (xs ++ ys)) h) [
  | inl same ↦ inl (ap (λ (t : Bool). t || is_in k xs) same)
  | inr rest ↦ elim (in-either k xs ys rest) [
    | inl first ↦ inl (or_right (same_key x k) (is_in k xs) first)
    | inr second ↦ inr second
  ]
]

-- a key of one alone is that one
pub in-one : (k x : Key) → is_in x (k ∷ []) ≡ true → k ≡ x
in-one k x i = elim (or_either (same_key k x) (is_in x []) i) [
  | inl same ↦ key_is k x same
  | inr none ↦ absurd (true≢false (sym none))
]

pub most-append : (count : Key → ℕ) (test : Key → Bool) (xs ys : List Key) → most_among count test (xs ++ ys) ≡ max (most_among count test xs) (most_among count test ys)
most-append count test [] ys = omega arith
most-append count test (k ∷ xs) ys = omega (arith, most-append count test xs ys)

-- it is the same under a test that says the same of each of these keys
pub most-same : (count : Key → ℕ) (a b : Key → Bool) (ks : List Key) → ((k : Key) → is_in k ks ≡ true → a k ≡ b k) → most_among count a ks ≡ most_among count b ks
most-same count a b [] h = refl
most-same count a b (k ∷ ks) h =
    ap (λ (t : Bool). max (if t then count k else 0) (most_among count a ks)) (h k (in-first k ks))
    ∙ ap (λ (n : ℕ). max (if b k then count k else 0) n) (most-same count a b ks (λ x i. h x (or_right (same_key k x) (is_in x ks) i)))

one-fewer : (a b : Bool) (n : ℕ) → (a ≡ true → b ≡ true) → (if a then n else 0) ≤ (if b then n else 0)
one-fewer true b n h = rw (h refl) (omega arith)
one-fewer false b n h = omega arith

-- and no less under one that passes where another does
pub most-fewer : (count : Key → ℕ) (a b : Key → Bool) (ks : List Key) → ((k : Key) → is_in k ks ≡ true → a k ≡ true → b k ≡ true) → most_among count a ks ≤ most_among count b ks
most-fewer count a b [] h = omega arith
most-fewer count a b (k ∷ ks) h =
    omega (arith, one-fewer (a k) (b k) (count k) (h k (in-first k ks)), most-fewer count a b ks (λ x i p. h x (or_right (same_key k x) (is_in x ks) i) p))

-- a key that passes has at most the greatest count
pub most-least : (count : Key → ℕ) (test : Key → Bool) (k : Key) (ks : List Key) → is_in k ks ≡ true → test k ≡ true → count k ≤ most_among count test ks
most-least count test k [] i p = absurd (true≢false (sym i))
most-least count test k (x ∷ ks) i p = elim (or_either (same_key x k) (is_in k ks) i) [
  | inl same ↦
      let is : x ≡ k = key_is x k same in
      let here : (if test x then count x else 0) ≡ count k = ap (λ (y : Key). if test y then count y else 0) is ∙ ap (λ (t : Bool). if t then count k else 0) p in
      omega (arith, here)
  | inr rest ↦ omega (arith, most-least count test k ks rest p)
]

one-bound : (t : Bool) (a n : ℕ) → (t ≡ true → a ≤ n) → (if t then a else 0) ≤ n
one-bound true a n h = h refl
one-bound false a n h = omega arith

-- where no key that passes has more than a number, the greatest count is no more
pub most-bound : (count : Key → ℕ) (test : Key → Bool) (n : ℕ) (ks : List Key) → ((k : Key) → is_in k ks ≡ true → test k ≡ true → count k ≤ n) → most_among count test ks ≤ n
most-bound count test n [] h = omega arith
most-bound count test n (k ∷ ks) h =
    omega (arith, one-bound (test k) (count k) n (h k (in-first k ks)), most-bound count test n ks (λ x i p. h x (or_right (same_key k x) (is_in x ks) i) p))
