-- The multiples of a stride: the stride taken so many times, and no number between two of them.
use Rattle.std.proofs.Common.{◌≡◌, ℕ, zero, suc, ◌+◌, ◌-◌, ◌*◌, ◌/◌, ◌%◌, ◌<◌, ◌≤◌, Bool, List, [], ◌∷◌, ◌++◌, if◌then◌else◌, refl, sym, ap, ◌∙◌, arith, inl, inr, append_assoc, append-nil, add-mul, one-mul, mod-lt, mul-le-mul_right, lt_of_mul-lt-mul_right, le_trans, div-add-mod', div-mul-le_self}
use Rattle.std.specs.Int.{div_ceil}
use Rattle.std.proofs.Math.Nat.{mul-mod_left}
use Rattle.std.proofs.lemmas.Bool.{cases_lt, eq-eqb, ne_eqb}
use Rattle.std.proofs.lemmas.Grind.{div_ceil_times}
use Rattle.shelf_core.specs.declared.plan.Key.{Key}
use Rattle.branch_workers.specs.Layout.{key_at, multiples_from}

-- once more the stride is a stride further
pub once_more : (m stride : ℕ) → (m + 1) * stride ≡ m * stride + stride
once_more m stride = add-mul m 1 stride ∙ ap (λ (n : ℕ). m * stride + n) (one-mul stride)

-- The stride taken so many times is below a number as long as the times are below the quotient, rounded up.
below_at : (stride n m q : ℕ) → q * stride < n + stride → m + 1 ≤ q → m * stride < n
below_at stride n m q ends l = let most = mul-le-mul_right stride l in let next = once_more m stride in omega arith

pub times_below : (stride n m : ℕ) → 0 < stride → m < div_ceil n stride → m * stride < n
times_below stride n m some l = below_at stride n m (div_ceil n stride) (div_ceil_times n stride some).1 (omega arith)

pub times_past : (stride n m : ℕ) → 0 < stride → div_ceil n stride ≤ m → n ≤ m * stride
times_past stride n m some l = le_trans (div_ceil_times n stride some).0 (mul-le-mul_right stride l)

-- The first multiple above a number is taken once more than the quotient says.
pub first_above : (stride n : ℕ) → 0 < stride → n < (n / stride + 1) * stride
first_above stride n some =
    let whole = div-add-mod' n stride in
    let rest = mod-lt n some in
    let next = once_more (n / stride) stride in omega arith

-- Between two multiples there is none.
pub between : (stride m e : ℕ) → m * stride < e → e < (m + 1) * stride → e % stride ≡ 0 → ⊥
between stride m e above below divides =
    let whole = div-add-mod' e stride in
    let is : e / stride * stride ≡ e = omega (arith, whole, divides) in
    let over : m * stride < e / stride * stride = omega (arith, is, above) in
    let under : e / stride * stride < (m + 1) * stride = omega (arith, is, below) in
    apart (e / stride) (lt_of_mul-lt-mul_right stride over) (lt_of_mul-lt-mul_right stride under)
  where
    apart : (k : ℕ) → m < k → k < m + 1 → ⊥
    apart k low high = absurd (omega arith)

-- None among some numbers is a multiple: the search over them finds nothing.
step : (stride s e stop : ℕ) → (e % stride ≡ 0 → ⊥) → multiples_from stride s e (stop - e) ≡ multiples_from stride s (e + 1) (stop - (e + 1))
step stride s e stop none = elim (cases_lt e stop) [
  | inl less ↦
      let n = stop - (e + 1) in
      let more : stop - e ≡ suc n = omega arith in
      ap (λ (m : ℕ). multiples_from stride s e m) more
      ∙ ap (λ (b : Bool). if b then key_at s e ∷ multiples_from stride s (e + 1) n else multiples_from stride s (e + 1) n) (ne_eqb (e % stride) 0 none)
  | inr past ↦
      let now : stop - e ≡ 0 = omega arith in
      let next : stop - (e + 1) ≡ 0 = omega arith in
      ap (λ (m : ℕ). multiples_from stride s e m) now ∙ sym (ap (λ (m : ℕ). multiples_from stride s (e + 1) m) next)
]

gap : (stride s e k stop : ℕ) → ((i : ℕ) → e ≤ i → i < e + k → i % stride ≡ 0 → ⊥) → multiples_from stride s e (stop - e) ≡ multiples_from stride s (e + k) (stop - (e + k))
gap stride s e zero stop none = let same : e ≡ e + 0 = omega arith in ap (λ (i : ℕ). multiples_from stride s i (stop - i)) same
gap stride s e (suc k) stop none =
    let same : e + 1 + k ≡ e + suc k = omega arith in
    step stride s e stop (none e (omega arith) (omega arith))
    ∙ gap stride s (e + 1) k stop (λ i l m. none i (omega arith) (omega arith))
    ∙ ap (λ (i : ℕ). multiples_from stride s i (stop - i)) same

gap_to : (stride s e b stop : ℕ) → e ≤ b → ((i : ℕ) → e ≤ i → i < b → i % stride ≡ 0 → ⊥) → multiples_from stride s e (stop - e) ≡ multiples_from stride s b (stop - b)
gap_to stride s e b stop l none =
    let same : e + (b - e) ≡ b = omega arith in
    gap stride s e (b - e) stop (λ i from to. none i from (omega arith)) ∙ ap (λ (i : ℕ). multiples_from stride s i (stop - i)) same

-- the keys of the stride taken so many times, one time more for each, and this many of them
abbrev pub each_from : ℕ → ℕ → ℕ → ℕ → List Key
each_from stride s m zero = []
each_from stride s m (suc n) = key_at s (m * stride) ∷ each_from stride s (m + 1) n

each_is : (stride s stop q m n e : ℕ) → 0 < stride → ((k : ℕ) → k < q → k * stride < stop) → ((k : ℕ) → q ≤ k → stop ≤ k * stride) → q - m ≡ n
    → e ≤ m * stride → ((i : ℕ) → e ≤ i → i < m * stride → i % stride ≡ 0 → ⊥) → multiples_from stride s e (stop - e) ≡ each_from stride s m n
each_is stride s stop q m zero e some low high count to none =
    let past = high m (omega arith) in
    let over : stop - m * stride ≡ 0 = omega arith in
    gap_to stride s e (m * stride) stop to none ∙ ap (λ (k : ℕ). multiples_from stride s (m * stride) k) over
each_is stride s stop q m (suc n) e some low high count to none =
    let below = low m (omega arith) in
    let left = stop - (m * stride + 1) in
    let more : stop - m * stride ≡ suc left = omega arith in
    let next = once_more m stride in
    gap_to stride s e (m * stride) stop to none
    ∙ ap (λ (k : ℕ). multiples_from stride s (m * stride) k) more
    ∙ ap (λ (b : Bool). if b then key_at s (m * stride) ∷ multiples_from stride s (m * stride + 1) left else multiples_from stride s (m * stride + 1) left)
    (eq-eqb (m * stride % stride) 0 (mul-mod_left m stride))
    ∙ ap (λ (keys : List Key). key_at s (m * stride) ∷ keys)
    (each_is stride s stop q (m + 1) n (m * stride + 1) some low high (omega arith) (omega arith) (λ i from to. between stride m i (omega arith) to))

-- The multiples strictly between two numbers, which a test of each number between them finds, are the stride taken so many
-- times, from the first above the one on, as long as that is below the other.
pub multiples_are : (stride s start stop : ℕ) → 0 < stride
    → multiples_from stride s (start + 1) (stop - (start + 1)) ≡ each_from stride s (start / stride + 1) (div_ceil stop stride - (start / stride + 1))
multiples_are stride s start stop some =
    let last = div-mul-le_self start stride in
    each_is stride s stop (div_ceil stop stride) (start / stride + 1) (div_ceil stop stride - (start / stride + 1)) (start + 1) some
    (λ k l. times_below stride stop k some l) (λ k l. times_past stride stop k some l) refl (let first = first_above stride start some in omega arith)
    (λ i from to. between stride (start / stride) i (omega arith) to)

-- One of them joins, and once none is left all have.
pub joins : (stride s m q : ℕ) (keys new all : List Key) → m < q → new ≡ keys ++ key_at s (m * stride) ∷ [] → keys ++ each_from stride s m (q - m) ≡ all
    → new ++ each_from stride s (m + 1) (q - (m + 1)) ≡ all
joins stride s m q keys new all l is h =
    let n = q - (m + 1) in
    let more : q - m ≡ suc n = omega arith in
    ap (λ (ks : List Key). ks ++ each_from stride s (m + 1) n) is
    ∙ append_assoc keys (key_at s (m * stride) ∷ []) (each_from stride s (m + 1) n)
    ∙ ap (λ (k : ℕ). keys ++ each_from stride s m k) (sym more) ∙ h

pub joined : (stride s m q : ℕ) (keys all : List Key) → q ≤ m → keys ++ each_from stride s m (q - m) ≡ all → keys ≡ all
joined stride s m q keys all l h =
    let none : q - m ≡ 0 = omega arith in
    sym (append-nil keys) ∙ ap (λ (k : ℕ). keys ++ each_from stride s m k) (sym none) ∙ h
