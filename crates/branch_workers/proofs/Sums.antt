-- How often numbers stand in a list, and what they weigh together.
use Rattle.std.proofs.Common.{◌≡◌, ◌≢◌, ℕ, zero, suc, ◌+◌, ◌*◌, ◌<◌, ◌≤◌, All, List, [], ◌∷◌, ◌++◌, length, sum_by, sym, refl, ap, ◌∙◌, subst, arith}
use Rattle.std.proofs.Math.Nat.{mul-suc, mul-zero, mul-one}
use Rattle.std.proofs.lemmas.List.Elements.{All-head, All-tail}
use Rattle.std.proofs.lemmas.List.Sums.{sum_by-cons}
use mathlib.Core.Logic.{dite}
use native.Mathlib.Decide.{ℕ_discrete}
use Rattle.shelf_core.specs.Views.{times}
use Rattle.shelf_core.proofs.Lists.{times_here, times_else, times_append}

-- f of each number below n, added up
abbrev pub upto : ℕ → (ℕ → ℕ) → ℕ
upto zero f = 0
upto (suc n) f = upto n f + f n

-- what the numbers below n weigh that stand in a list
abbrev pub weight : (ℕ → ℕ) → ℕ → List ℕ → ℕ
weight f n xs = upto n (λ s. f s * times s xs)

weight_nil : (f : ℕ → ℕ) (n : ℕ) → weight f n [] ≡ 0
weight_nil f zero = refl
weight_nil f (suc n) = let r = weight_nil f n in let z = mul-zero (f n) in omega arith

weight_out : (f : ℕ → ℕ) (n x : ℕ) (xs : List ℕ) → n ≤ x → weight f n (x ∷ xs) ≡ weight f n xs
weight_out f zero x xs h = refl
weight_out f (suc n) x xs h = let r = weight_out f n x xs (omega arith) in
    let e = ap (λ (t : ℕ). f n * t) (times_else n x xs (λ (z : x ≡ n). omega arith)) in omega arith

weight_in : (f : ℕ → ℕ) (n x : ℕ) (xs : List ℕ) → x < n → weight f n (x ∷ xs) ≡ weight f n xs + f x
weight_in f zero x xs h = absurd (omega arith)
weight_in f (suc n) x xs h = dite (ℕ_discrete x n)
    (λ (one : x ≡ n). subst (λ (y : ℕ). weight f (suc n) (y ∷ xs) ≡ weight f (suc n) xs + f y) (sym one)
    (let r = weight_out f n n xs (omega arith) in
    let e = ap (λ (t : ℕ). f n * t) (times_here n xs) ∙ mul-suc (f n) (times n xs) in omega arith))
    (λ (ne : x ≢ n). let r = weight_in f n x xs (omega arith) in let e = ap (λ (t : ℕ). f n * t) (times_else n x xs ne) in omega arith)

-- a list of numbers below n weighs what they weigh
pub weighed : (f : ℕ → ℕ) (n : ℕ) (xs : List ℕ) → All (λ s. s < n) xs → sum_by f xs ≡ weight f n xs
weighed f n [] h = sym (weight_nil f n)
weighed f n (x ∷ xs) h = let a = sum_by-cons f x xs in let r = weighed f n xs (All-tail (λ (s : ℕ). s < n) x xs h) in let e = weight_in f n x xs (All-head (λ (s : ℕ). s < n) x xs h) in omega arith

upto_le : (n : ℕ) (f g : ℕ → ℕ) → ((s : ℕ) → s < n → f s ≤ g s) → upto n f ≤ upto n g
upto_le zero f g h = omega arith
upto_le (suc n) f g h = let r = upto_le n f g (λ s l. h s (omega arith)) in let e = h n (omega arith) in omega arith

once_le : (k t : ℕ) → t ≤ 1 → k * t ≤ k
once_le k zero h = let z = mul-zero k in omega arith
once_le k (suc zero) h = let z = mul-one k in omega arith
once_le k (suc (suc t)) h = absurd (omega arith)

-- each at most once, they weigh at most what all numbers below n weigh
pub weighs_most : (f : ℕ → ℕ) (n : ℕ) (xs : List ℕ) → All (λ s. s < n) xs → ((s : ℕ) → s < n → times s xs ≤ 1) → sum_by f xs ≤ upto n f
weighs_most f n xs h once = let w = weighed f n xs h in let u = upto_le n (λ s. f s * times s xs) f (λ s l. once_le (f s) (times s xs) (once s l)) in omega arith

-- each once, they weigh what all numbers below n weigh
pub weighs_all : (f : ℕ → ℕ) (n : ℕ) (xs : List ℕ) → All (λ s. s < n) xs → ((s : ℕ) → s < n → times s xs ≡ 1) → sum_by f xs ≡ upto n f
weighs_all f n xs h once = weighed f n xs h ∙ same n (λ s l. ap (λ (t : ℕ). f s * t) (once s l) ∙ mul-one (f s))
  where
    same : (m : ℕ) → ((s : ℕ) → s < m → f s * times s xs ≡ f s) → upto m (λ s. f s * times s xs) ≡ upto m f
    same zero e = refl
    same (suc m) e = let r = same m (λ s l. e s (omega arith)) in let t = e m (omega arith) in omega arith

upto_ones : (n : ℕ) → upto n (λ s. 1) ≡ n
upto_ones zero = refl
upto_ones (suc n) = let r = upto_ones n in omega arith

count_all : (xs : List ℕ) → sum_by (λ s. 1) xs ≡ length xs
count_all [] = refl
count_all (x ∷ xs) = let a = sum_by-cons (λ (s : ℕ). 1) x xs in let r = count_all xs in omega arith

-- so they are at most n
pub at_most : (n : ℕ) (xs : List ℕ) → All (λ s. s < n) xs → ((s : ℕ) → s < n → times s xs ≤ 1) → length xs ≤ n
at_most n xs h once = let w = weighs_most (λ s. 1) n xs h once in let u = upto_ones n in let c = count_all xs in omega arith

full_upto : (n : ℕ) (g : ℕ → ℕ) → ((s : ℕ) → s < n → g s ≤ 1) → n ≤ upto n g → (s : ℕ) → s < n → g s ≡ 1
full_upto zero g h all s l = absurd (omega arith)
full_upto (suc n) g h all s l =
    let top = h n (omega arith) in
    let few : upto n g ≤ n = (let u = upto_le n g (λ t. 1) (λ t m. h t (omega arith)) in let o = upto_ones n in omega arith) in
    dite (ℕ_discrete s n)
    (λ (one : s ≡ n). subst (λ (t : ℕ). g t ≡ 1) (sym one) (omega arith))
    (λ (ne : s ≢ n). full_upto n g (λ t m. h t (omega arith)) (omega arith) s (omega arith))

one_times : (t : ℕ) → 1 * t ≡ t
one_times t = omega arith

upto_same : (n : ℕ) (f g : ℕ → ℕ) → ((s : ℕ) → f s ≡ g s) → upto n f ≡ upto n g
upto_same zero f g e = refl
upto_same (suc n) f g e = let r = upto_same n f g e in let t = e n in omega arith

-- where they are n, each number below n stands there once
pub each_once : (n : ℕ) (xs : List ℕ) → All (λ s. s < n) xs → ((s : ℕ) → s < n → times s xs ≤ 1) → n ≤ length xs → (s : ℕ) → s < n → times s xs ≡ 1
each_once n xs h once many =
    let w = weighed (λ s. 1) n xs h in let c = count_all xs in let e = upto_same n (λ s. 1 * times s xs) (λ s. times s xs) (λ s. one_times (times s xs)) in
    full_upto n (λ s. times s xs) once (omega arith)

-- what stands in a list stands in one of its parts
pub times_parts : (s : ℕ) (xs ys : List ℕ) → 0 < times s (xs ++ ys) → (0 < times s xs → ⊥) → 0 < times s ys
times_parts s xs ys h none = let a = times_append s xs ys in dite (ℕ_discrete (times s xs) 0)
    (λ (z : times s xs ≡ 0). omega arith)
    (λ (nz : times s xs ≢ 0). absurd (none (omega arith)))
