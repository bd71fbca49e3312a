-- The lanes that are opened.
use Rattle.std.proofs.Common.{◌≡◌, ◌≢◌, ℕ, zero, suc, ◌+◌, ◌-◌, ◌<◌, ◌≤◌, ◌⊎◌, inl, inr, ⊎_elim, All, List, [], ◌∷◌, ◌++◌, length, length-drop, take, drop, set, Option, Some, None, unwrap_or, slice_get, slice_index_or, map, sym, refl, ap, ◌∙◌, subst, arith}
use Rattle.std.proofs.lemmas.List.Elements.{All-set}
use Rattle.branch_deques.specs.Lanes.{fresh}
use Rattle.branch_deques.specs.Told.{EndTold, LaneTold, fresh_end, round, own_lanes}

module _ {A B : Type 0} (f : A → B) where
  map_append : (xs ys : List A) → map f (xs ++ ys) ≡ map f xs ++ map f ys
  map_append [] ys = refl
  map_append (x ∷ xs) ys = ap (λ l. f x ∷ l) (map_append xs ys)

  map_take : (n : ℕ) (xs : List A) → map f (take n xs) ≡ take n (map f xs)
  map_take zero xs = refl
  map_take (suc n) [] = refl
  map_take (suc n) (x ∷ xs) = ap (λ l. f x ∷ l) (map_take n xs)

  map_drop : (n : ℕ) (xs : List A) → map f (drop n xs) ≡ drop n (map f xs)
  map_drop zero xs = refl
  map_drop (suc n) [] = refl
  map_drop (suc n) (x ∷ xs) = map_drop n xs

  -- an item that has the same image in the place of another
  map_same : (xs : List A) (i : ℕ) (a b : A) → slice_get xs i ≡ Some a → f b ≡ f a → map f (set xs i b) ≡ map f xs
  map_same [] i a b e same = refl
  map_same (x ∷ xs) zero a b e same = ap (λ y. y ∷ map f xs) (same ∙ ap f (sym (here x a e)))
    where
      here : (x a : A) → Some x ≡ Some a → x ≡ a
      here x a e = ap (λ (o : Option A). unwrap_or o x) e
  map_same (x ∷ xs) (suc i) a b e same = ap (λ l. f x ∷ l) (map_same xs i a b e same)

-- the ends of the lanes behind one and of those before it go round
pub round_is : (n : ℕ) (lanes : List LaneTold) → map fresh_end (own_lanes (drop (n + 1) lanes)) ++ map fresh_end (own_lanes (take n lanes)) ≡ map fresh_end (round n (own_lanes lanes))
round_is n lanes =
    ap (λ l. map fresh_end l ++ map fresh_end (own_lanes (take n lanes))) (map_drop (λ l. l.own.lane) (n + 1) lanes)
    ∙ ap (λ l. map fresh_end (drop (n + 1) (own_lanes lanes)) ++ map fresh_end l) (map_take (λ l. l.own.lane) n lanes)
    ∙ sym (map_append fresh_end (drop (n + 1) (own_lanes lanes)) (take n (own_lanes lanes)))

pub take_long : {A : Type 0} (n : ℕ) (xs : List A) → length xs ≤ n → take n xs ≡ xs
take_long zero [] le = refl
take_long zero (x ∷ xs) le = absurd (omega arith)
take_long (suc n) [] le = refl
take_long (suc n) (x ∷ xs) le = ap (λ l. x ∷ l) (take_long n xs (omega arith))

-- all that stands from a place on
pub take_rest : {A : Type 0} (n : ℕ) (xs : List A) → take (length xs - n) (drop n xs) ≡ drop n xs
take_rest n xs = take_long (length xs - n) (drop n xs) (omega (arith, length-drop n xs))

IsNone : {A : Type 0} → Option A → Type 0
IsNone None = Unit {0}
IsNone (Some x) = ⊥

not_some : {A : Type 0} (a : A) → None ≡ Some a → ⊥
unfolding IsNone
not_some {A} a e = subst (λ (o : Option A). IsNone o) e tt

module _ {A : Type 0} where
  full : (xs : List A) (n : ℕ) (d : A) → n < length xs → slice_get xs n ≡ Some (slice_index_or xs n d)
  full [] n d lt = absurd (omega arith)
  full (x ∷ xs) zero d lt = refl
  full (x ∷ xs) (suc n) d lt = full xs n d (omega arith)

  pub within : (xs : List A) (n : ℕ) (a : A) → slice_get xs n ≡ Some a → n < length xs
  within [] n a e = absurd (not_some a e)
  within (x ∷ xs) zero a e = omega arith
  within (x ∷ xs) (suc n) a e = let r = within xs n a e in omega arith

  same_some : (a b : A) → Some a ≡ Some b → a ≡ b
  same_some a b e = ap (λ (o : Option A). unwrap_or o a) e

  -- what holds of all holds of the one at a place
  pub of_all : (P : A → Type 0) (xs : List A) (n : ℕ) (a : A) → All P xs → slice_get xs n ≡ Some a → P a
  of_all P xs n a all e = let lt = within xs n a e in subst P (same_some (slice_index_or xs n a) a (sym (full xs n a lt) ∙ e)) (all n a lt)

  set_at : (xs : List A) (n m : ℕ) (b a : A) → slice_get (set xs n b) m ≡ Some a → ((m ≡ n) × (b ≡ a)) ⊎ ((m ≢ n) × (slice_get xs m ≡ Some a))
  set_at [] n m b a e = let w = within [] m a e in absurd (omega arith)
  set_at (x ∷ xs) zero zero b a e = inl (refl, same_some b a e)
  set_at (x ∷ xs) zero (suc m) b a e = inr ((λ h. omega arith), e)
  set_at (x ∷ xs) (suc n) zero b a e = inr ((λ h. omega arith), e)
  set_at (x ∷ xs) (suc n) (suc m) b a e = ⊎_elim (λ (t : (m ≡ n) × (b ≡ a)). inl (ap suc t.0, t.1)) (λ (t : (m ≢ n) × (slice_get xs m ≡ Some a)). let ne = t.0 in inr ((λ h. ne (omega arith)), t.1)) (set_at xs n m b a e)

-- one end more
pub end_more : (lanes : List LaneTold) (lane : LaneTold) → map fresh_end (own_lanes lanes) ++ fresh_end lane.own.lane ∷ [] ≡ map fresh_end (own_lanes (lanes ++ lane ∷ []))
end_more [] lane = refl
end_more (x ∷ xs) lane = ap (λ l. fresh_end x.own.lane ∷ l) (end_more xs lane)

-- a lane whose ends of the others are new
pub own_same : (lanes : List LaneTold) (i : ℕ) (a b : LaneTold) → slice_get lanes i ≡ Some a → b.own ≡ a.own → own_lanes (set lanes i b) ≡ own_lanes lanes
own_same lanes i a b e same = map_same (λ l. l.own.lane) lanes i a b e (ap (λ (o : EndTold). o.lane) same)

abbrev pub AreFresh : List LaneTold → Type 0
AreFresh lanes = All (λ lane. lane.own.view ≡ fresh) lanes

abbrev pub Filled : ℕ → List LaneTold → Type 0
Filled n lanes = (m : ℕ) (lane : LaneTold) → m < n → slice_get lanes m ≡ Some lane → lane.others ≡ map fresh_end (round m (own_lanes lanes))

-- the lane that got its ends of the others
module _ (lanes : List LaneTold) (n : ℕ) (b d : LaneTold) (lt : n < length lanes) (same : b.own ≡ (slice_index_or lanes n d).own) where
  still_own : own_lanes (set lanes n b) ≡ own_lanes lanes
  still_own = own_same lanes n (slice_index_or lanes n d) b (full lanes n d lt) same

  pub still_fresh : AreFresh lanes → AreFresh (set lanes n b)
  still_fresh all = All-set (λ lane. lane.own.view ≡ fresh) lanes n b (ap (λ (o : EndTold). o.view) same ∙ all n d lt) all

  pub one_filled : b.others ≡ map fresh_end (round n (own_lanes lanes)) → Filled n lanes → Filled (n + 1) (set lanes n b)
  one_filled is filled m lane low e = ⊎_elim
      (λ (t : (m ≡ n) × (b ≡ lane)). ap (λ (l : LaneTold). l.others) (sym t.1) ∙ is ∙ ap (λ k. map fresh_end (round k (own_lanes lanes))) (sym t.0) ∙ ap (λ l. map fresh_end (round m l)) (sym still_own))
      (λ (t : (m ≢ n) × (slice_get lanes m ≡ Some lane)). let ne = t.0 in filled m lane (omega arith) t.1 ∙ ap (λ l. map fresh_end (round m l)) (sym still_own))
      (set_at lanes n m b lane e)
