-- Lists whose keys rise.
use Rattle.std.proofs.Common.{◌≡◌, ℕ, zero, suc, ◌<◌, ◌≤◌, Bool, true, false, true≢false, List, [], ◌∷◌, Option, Some, None, slice_get, slice_index_or, length, sym, refl, ap, ◌∙◌, subst, ⊎_elim, arith, inl, inr, ◌⊎◌, ◌||◌}
use Rattle.std.specs.List.{list_all}
use Rattle.std.specs.List.Sorted.{IsPartitionedBy, IsPartitionPoint}
use Rattle.shelf_core.specs.Plan.{same_key, is_before, rise, index_of}
use Rattle.shelf_core.specs.declared.plan.Key.{Key}
use Rattle.shelf_core.proofs.Lists.{some_same, not_some, within, there}
use Rattle.shelf_core.proofs.Plans.{and_left, and_right, key_is, key_self, all_at, index_found, in_has_index}

pub before_self : (k : Key) → is_before k k ≡ false
before_self k = grind arith

before_trans : (a b c : Key) → is_before a b ≡ true → is_before b c ≡ true → is_before a c ≡ true
before_trans a b c e f = grind (arith, e, f)

module _ (d : Key) where
  got : (keys : List Key) (i : ℕ) (k : Key) → slice_get keys i ≡ Some k → slice_index_or keys i d ≡ k
  got [] i k e = absurd (not_some k e)
  got (x ∷ keys) zero k e = some_same x k e
  got (x ∷ keys) (suc i) k e = got keys i k e

-- of two places in a list the earlier key comes before the later
risen : (keys : List Key) (i j : ℕ) (a b : Key) → rise keys ≡ true → i < j → slice_get keys i ≡ Some a → slice_get keys j ≡ Some b → is_before a b ≡ true
risen [] i j a b r lt e f = absurd (not_some a e)
risen (x ∷ keys) i zero a b r lt e f = absurd (omega arith)
risen (x ∷ keys) zero (suc j) a b r lt e f = let s = some_same x a e in
    subst (λ y. is_before y b ≡ true) s (all_at (λ k. is_before x k) keys j b (and_left (list_all (λ k. is_before x k) keys) (rise keys) r) f)
risen (x ∷ keys) (suc i) (suc j) a b r lt e f = risen keys i j a b (and_right (list_all (λ k. is_before x k) keys) (rise keys) r) (omega arith) e f

pub parted : (key : Key) (keys : List Key) → rise keys ≡ true → IsPartitionedBy (λ k. is_before k key) keys
parted key keys r i j d le lt e =
    let a = there keys i (omega arith) in let b = there keys j lt in
    let ga = got d keys i a.0 a.1 in let gb = got d keys j b.0 b.1 in
    let later : is_before b.0 key ≡ true = ap (λ k. is_before k key) (sym gb) ∙ e in
    ap (λ k. is_before k key) ga ∙ ⊎_elim
    (λ (less : i < j). before_trans a.0 b.0 key (risen keys i j a.0 b.0 r less a.1 b.1) later)
    (λ (same : i ≡ j). let s = some_same a.0 b.0 (sym a.1 ∙ ap (slice_get keys) same ∙ b.1) in ap (λ k. is_before k key) s ∙ later)
    (order i j le)
  where
    order : (i j : ℕ) → i ≤ j → (i < j) ⊎ (i ≡ j)
    order zero zero le = inr refl
    order zero (suc j) le = inl (omega arith)
    order (suc i) zero le = absurd (omega arith)
    order (suc i) (suc j) le = ⊎_elim (λ (x : i < j). inl (omega arith)) (λ (x : i ≡ j). inr (ap suc x)) (order i j (omega arith))

-- Where the keys that come before a key end, the key stands, or nowhere.
pub stands_there : (key : Key) (keys : List Key) (i j : ℕ) → rise keys ≡ true → IsPartitionPoint (λ k. is_before k key ≡ true) (λ k. is_before k key ≡ false) keys i → slice_get keys j ≡ Some key → j ≡ i
stands_there key keys i j r point e = ⊎_elim
    (λ (less : j < i). let b = point.0 j key (omega arith) less in absurd (true≢false (sym b ∙ ap (λ k. is_before k key) (got key keys j key e) ∙ before_self key)))
    (λ (rest : (j ≡ i) ⊎ (i < j)). ⊎_elim
    (λ (same : j ≡ i). same)
    (λ (more : i < j). let w = within keys j key e in let a = there keys i (omega arith) in
    let b = point.1 i key (omega arith) (omega arith) in
    absurd (true≢false (sym (risen keys i j a.0 key r more a.1 e) ∙ ap (λ k. is_before k key) (sym (got key keys i a.0 a.1)) ∙ b)))
    rest)
    (order j i)
  where
    order : (i j : ℕ) → (i < j) ⊎ ((i ≡ j) ⊎ (j < i))
    order zero zero = inr (inl refl)
    order zero (suc j) = inl (omega arith)
    order (suc i) zero = inr (inr (omega arith))
    order (suc i) (suc j) = ⊎_elim (λ (x : i < j). inl (omega arith)) (λ (x : (i ≡ j) ⊎ (j < i)). inr (⊎_elim (λ (y : i ≡ j). inl (ap suc y)) (λ (y : j < i). inr (omega arith)) x)) (order i j)

pub risen_hit : (key : Key) (keys : List Key) (i : ℕ) → rise keys ≡ true → IsPartitionPoint (λ k. is_before k key ≡ true) (λ k. is_before k key ≡ false) keys i → slice_get keys i ≡ Some key → Some i ≡ index_of key keys
risen_hit key keys i r point e =
    let f = in_has_index key keys (stands keys i e) in
    let s = stands_there key keys i f.0 r point (index_found key f.0 keys f.1) in ap Some (sym s) ∙ sym f.1
  where
    stands : (keys : List Key) (i : ℕ) → slice_get keys i ≡ Some key → Rattle.shelf_core.specs.Plan.is_in key keys ≡ true
    stands [] i e = absurd (not_some key e)
    stands (x ∷ keys) zero e = let s = some_same x key e in rw (ap (λ k. same_key k key) s ∙ key_self key) refl
    stands (x ∷ keys) (suc i) e = rw (stands keys i e) (or_true (same_key x key))
      where
        or_true : (b : Bool) → (b || true) ≡ true
        or_true true = refl
        or_true false = refl

pub risen_miss : (key : Key) (keys : List Key) (i : ℕ) → rise keys ≡ true → IsPartitionPoint (λ k. is_before k key ≡ true) (λ k. is_before k key ≡ false) keys i → (slice_get keys i ≡ Some key → ⊥) → None ≡ index_of key keys
risen_miss key keys i r point away = by (index_of key keys) refl
  where
    by : (o : Option ℕ) → index_of key keys ≡ o → None ≡ index_of key keys
    by None e = sym e
    by (Some j) e = let at = index_found key j keys e in let s = stands_there key keys i j r point at in absurd (away (ap (slice_get keys) (sym s) ∙ at))

-- the key at an index, by a comparison
there_or : (d : Key) (keys : List Key) (i : ℕ) → i < length keys → slice_get keys i ≡ Some (slice_index_or keys i d)
there_or d keys i lt = let t = there keys i lt in t.1 ∙ ap Some (sym (got d keys i t.0 t.1))

pub is_here : (d key : Key) (keys : List Key) (i : ℕ) → i < length keys → same_key (slice_index_or keys i d) key ≡ true → slice_get keys i ≡ Some key
is_here d key keys i lt e = there_or d keys i lt ∙ ap Some (key_is (slice_index_or keys i d) key e)

pub not_here : (d key : Key) (keys : List Key) (i : ℕ) → same_key (slice_index_or keys i d) key ≡ false → slice_get keys i ≡ Some key → ⊥
not_here d key keys i e at = true≢false (sym (key_self key) ∙ ap (λ k. same_key k key) (sym (got d keys i key at)) ∙ e)
