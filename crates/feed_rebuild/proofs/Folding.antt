-- Lemmas on the fold of a feed, and on what tells books from a closing.
use Rattle.std.proofs.Common.{◌≡◌, ℕ, ◌≤◌, min, suc, Bool, true, false, cond, ◌&&◌, List, [], ◌∷◌, ◌++◌, Option, Some, None, Result, Ok, Err, refl, sym, ap, ◌∙◌, arith, inl, inr, All}
use Rattle.std.specs.Prelude.{bytes_eq, ◌⊎◌}
use Rattle.std.specs.List.{AllByRecursion, Contains}
use Rattle.std.specs.Cmp.Lexicographic.{pointwise, pointwise_decides}
use Rattle.std.proofs.lemmas.Bool.{cases_lt}
use Rattle.std.proofs.lemmas.List.Elements.{All-from_recursion}
use Rattle.std.proofs.lemmas.Slice.Eq.{bytes_eq-Decides}
use Rattle.market_types.specs.declared.feed.Feed.{Feed}
use Rattle.feed_rebuild.specs.declared.shown.Shown.{Shown}
use Rattle.feed_rebuild.specs.Compared.{by_stock, difference, is_same, least, lesser, odd_of, or_zero}
use Rattle.feed_rebuild.specs.Fold.{fold, fresh, told_by, told_what, Told}
use Rattle.feed_rebuild.specs.Misfits.{IsMisfitIn}
use Rattle.feed_rebuild.proofs.Places.{and-left, and-right}
use Rattle.feed_rebuild.proofs.Sames.{same-decides}

still : (n : ℕ) (feed : List Feed) → told_by (Err n) feed ≡ Err n
still n [] = refl
still n (m ∷ feed) = refl

told_by-append : (r : Result Told ℕ) (before after : List Feed) → told_by r (before ++ after) ≡ told_by (told_by r before) after
told_by-append r [] after = refl
told_by-append (Ok t) (m ∷ before) after = told_by-append (told_what t m.locate m.what) before after
told_by-append (Err n) (m ∷ before) after = sym (still n after)

pub goes_on : (stocks : ℕ) (before : List Feed) (m : Feed) (t u : Told) → fold stocks before ≡ Ok t → told_what t m.locate m.what ≡ Ok u → fold stocks (before ++ m ∷ []) ≡ Ok u
unfolding fold
goes_on stocks before m t u e h = told_by-append (Ok (fresh stocks)) before (m ∷ []) ∙ ap (λ (r : Result Told ℕ). told_by r (m ∷ [])) e ∙ h

pub ends : (stocks : ℕ) (before : List Feed) (m : Feed) (after : List Feed) (t : Told) (n : ℕ) → fold stocks before ≡ Ok t → told_what t m.locate m.what ≡ Err n → fold stocks (before ++ m ∷ after) ≡ Err n
unfolding fold
ends stocks before m after t n e h = told_by-append (Ok (fresh stocks)) before (m ∷ after) ∙ ap (λ (r : Result Told ℕ). told_by r (m ∷ after)) e ∙ ap (λ (r : Result Told ℕ). told_by r after) h ∙ still n after

same-misfit : (k n : ℕ) (feed : List Feed) → told_by (Err k) feed ≡ Err n → k ≡ n
same-misfit k n feed e = inside k n (sym (still k feed) ∙ e)
  where
    err : ℕ → Result Told ℕ
    err n = Err n

    inside : (k n : ℕ) → err k ≡ err n → k ≡ n
    inside k n e = cc

never-told : (t : Told) (n : ℕ) → told_by (Ok t) [] ≡ Err n → ⊥
never-told t n e = cc

misfit-in : (start : Told) (feed : List Feed) (n : ℕ) → told_by (Ok start) feed ≡ Err n → IsMisfitIn start feed n
misfit-in start [] n e = absurd (never-told start n e)
misfit-in start (m ∷ feed) n e = elim (told_what start m.locate m.what) as (λ r. (told_what start m.locate m.what ≡ r) → told_by r feed ≡ Err n → IsMisfitIn start (m ∷ feed) n) [
  | Ok u ↦ λ s h. (let q = misfit-in u feed n h in record {
    before = m ∷ q.before;
    message = q.message;
    after = q.after;
    told = q.told;
    parts = ap (λ v. m ∷ v) q.parts;
    led = ap (λ (r : Result Told ℕ). told_by r q.before) s ∙ q.led;
    misfit = q.misfit;
  })
  | Err k ↦ λ s h. record {
    before = [];
    message = m;
    after = feed;
    told = start;
    parts = refl;
    led = refl;
    misfit = s ∙ ap Err (same-misfit k n feed h);
  }
] refl e

pub first-misfit : (stocks : ℕ) (feed : List Feed) (n : ℕ) → fold stocks feed ≡ Err n → IsMisfitIn (fresh stocks) feed n
unfolding fold
first-misfit stocks feed n e = misfit-in (fresh stocks) feed n e

-- no difference
both-true : (a b : Bool) (n : ℕ) → cond (a && b) None (Some n) ≡ None → (a && b) ≡ true
both-true true true n e = refl
both-true true false n e = absurd (no n e)
  where
    no : (n : ℕ) → Some n ≡ None → ⊥
    no n e = cc
both-true false b n e = absurd (no n e)
  where
    no : (n : ℕ) → Some n ≡ None → ⊥
    no n e = cc

pub same-orders_by : (n : ℕ) (os : List Shown) (states : List ℕ) (live : List Shown) (told : List ℕ) → difference n os states live told ≡ None → by_stock n os ≡ live
same-orders_by n os states live told e =
    (pointwise_decides same-decides (by_stock n os) live).0 (and-left (pointwise is_same (by_stock n os) live) (bytes_eq states told) (both-true (pointwise is_same (by_stock n os) live) (bytes_eq states told) (or_zero (least (odd_of os live))) e))

pub same-states_by : (n : ℕ) (os : List Shown) (states : List ℕ) (live : List Shown) (told : List ℕ) → difference n os states live told ≡ None → states ≡ told
same-states_by n os states live told e =
    (bytes_eq-Decides states told).0 (and-right (pointwise is_same (by_stock n os) live) (bytes_eq states told) (both-true (pointwise is_same (by_stock n os) live) (bytes_eq states told) (or_zero (least (odd_of os live))) e))

pub none-differs : (n : ℕ) (os : List Shown) (states : List ℕ) → difference n os states (by_stock n os) states ≡ None
none-differs n os states =
    let a : pointwise is_same (by_stock n os) (by_stock n os) ≡ true = (pointwise_decides same-decides (by_stock n os) (by_stock n os)).1 refl in
    let b : bytes_eq states states ≡ true = (bytes_eq-Decides states states).1 refl in
    rw (a, b) refl

-- the least
least-here : (n m : ℕ) (x : Option ℕ) → lesser (Some n) x ≡ Some m → (n ≡ m) ⊎ (x ≡ Some m)
least-here n m None e = inl cc
least-here n m (Some k) e = elim (cases_lt n k) [
  | inl l ↦ inl (omega (arith, inside (min n k) m e))
  | inr g ↦ inr (ap Some (omega (arith, inside (min n k) m e)))
]
  where
    inside : (a b : ℕ) → Some a ≡ Some b → a ≡ b
    inside a b e = cc

pub least-one : (ns : List ℕ) (n : ℕ) → least ns ≡ Some n → Contains ns n
least-one [] n e = absurd (no n e)
  where
    no : (k : ℕ) → None ≡ Some k → ⊥
    no k s = cc
least-one (m ∷ ns) n e = elim (least-here m n (least ns) e) [
  | inl q ↦ (0, omega arith, q)
  | inr s ↦ (let r = least-one ns n s in (suc r.0, omega (arith, r.1), r.2))
]

some-is : (a b : ℕ) → Some a ≡ Some b → a ≡ b
some-is a b e = cc

below-head : (m n : ℕ) (x : Option ℕ) → ((k : ℕ) → lesser (Some m) x ≡ Some k → n ≤ k) → (n ≤ m) × ((k : ℕ) → x ≡ Some k → n ≤ k)
below-head m n None h = (h m refl, λ k s. absurd (no k s))
  where
    no : (k : ℕ) → None ≡ Some k → ⊥
    no k s = cc
below-head m n (Some j) h = (omega (arith, h (min m j) refl), λ k s. omega (arith, h (min m j) refl, some-is j k s))

below-by : (ns : List ℕ) (n : ℕ) → ((k : ℕ) → least ns ≡ Some k → n ≤ k) → AllByRecursion (λ (m : ℕ). n ≤ m) ns
below-by [] n h = tt
below-by (m ∷ ns) n h = let r = below-head m n (least ns) h in (r.0, below-by ns n r.1)

pub least-below : (ns : List ℕ) (n : ℕ) → least ns ≡ Some n → All (λ (m : ℕ). n ≤ m) ns
least-below ns n e = All-from_recursion (λ (m : ℕ). n ≤ m) ns (below-by ns n (λ k s. omega (arith, some-is n k (sym e ∙ s))))
