-- Lists that are taken in one after another.
use Rattle.std.proofs.Common.{◌≡◌, ℕ, zero, suc, ◌+◌, All, Bool, true, false, true≢false, ◌&&◌, List, [], ◌∷◌, ◌++◌, Some, length, map, sum_by, slice_get, append_assoc, sym, refl, ap, ◌∙◌, subst, arith, length-append}
use Rattle.std.proofs.lemmas.List.{append-nil, map-append, length-map, nil_from_length}
use Rattle.std.proofs.lemmas.List.Elements.{All-nil, All-cons, All-head, All-tail, All-push}
use Rattle.std.proofs.lemmas.List.Sums.{sum_by-cons}
use Rattle.shelf_core.proofs.Lists.{not_some, some_same}
use Rattle.branch_workers.specs.Workers.{AreNumbered}

and_left : (p q : Bool) → (p && q) ≡ true → p ≡ true
and_left true q e = refl
and_left false q e = e

and_right : (p q : Bool) → (p && q) ≡ true → q ≡ true
and_right true q e = e
and_right false q e = absurd (true≢false (sym e))

module _ {X : Type 0} (ws rest : List X) (x : X) (is : ws ≡ x ∷ rest) where
  -- One more goes from those that are left to those that were taken.
  pub taken : {S : Type 0} (f : X → S) (done all : List S) → done ++ map f ws ≡ all → (done ++ f x ∷ []) ++ map f rest ≡ all
  taken {S} f done all h = append_assoc done (f x ∷ []) (map f rest) ∙ ap (λ (ys : List X). done ++ map f ys) (sym is) ∙ h

  pub counted_in : (f : X → ℕ) (n total : ℕ) → n + sum_by f ws ≡ total → (n + f x) + sum_by f rest ≡ total
  counted_in f n total h = let e = ap (λ (ys : List X). sum_by f ys) is in let a = sum_by-cons f x rest in omega arith

  pub first_of_all : (P : X → Type 0) → All P ws → P x
  first_of_all P h = All-head P x rest (subst (λ (ys : List X). All P ys) is h)

  pub rest_of_all : (P : X → Type 0) → All P ws → All P rest
  rest_of_all P h = All-tail P x rest (subst (λ (ys : List X). All P ys) is h)

  pub finished_more : (fin : X → Bool) (b : Bool) (init : List X) → (b ≡ true → All (λ w. fin w ≡ true) ws → All (λ w. fin w ≡ true) init)
      → (b && fin x) ≡ true → All (λ w. fin w ≡ true) rest → All (λ w. fin w ≡ true) init
  finished_more fin b init h both all =
      h (and_left b (fin x) both) (subst (λ (ys : List X). All (λ w. fin w ≡ true) ys) (sym is) (All-cons (λ w. fin w ≡ true) x rest (and_right b (fin x) both) all))

-- One more is made of the first that is left.
pub made : {X S : Type 0} (ws : List X) (w : X) (f : X → S) (left rest all : List S) → left ≡ f w ∷ rest → map f ws ++ left ≡ all → map f (ws ++ w ∷ []) ++ rest ≡ all
made {X} {S} ws w f left rest all is h =
    ap (λ (ys : List S). ys ++ rest) (map-append f ws (w ∷ [])) ∙ append_assoc (map f ws) (f w ∷ []) rest ∙ ap (λ (ys : List S). map f ws ++ ys) (sym is) ∙ h

-- One number more.
numbers_from : (xs : List ℕ) (k n : ℕ) → ((i m : ℕ) → slice_get xs i ≡ Some m → m ≡ k + i) → n ≡ k + length xs → (i m : ℕ) → slice_get (xs ++ n ∷ []) i ≡ Some m → m ≡ k + i
numbers_from [] k n h long zero m e = let s = some_same n m e in omega arith
numbers_from [] k n h long (suc i) m e = absurd (not_some m e)
numbers_from (x ∷ xs) k n h long zero m e = h 0 m e
numbers_from (x ∷ xs) k n h long (suc i) m e =
    let r = numbers_from xs (suc k) n (λ j q f. let a = h (suc j) q f in omega arith) (omega arith) i m e in omega arith

pub numbered_more : (numbers : List ℕ) (n : ℕ) → AreNumbered numbers → length numbers ≡ n → AreNumbered (numbers ++ n ∷ [])
numbered_more numbers n h long i m e = let r = numbers_from numbers 0 n (λ j k q. let a = h j k q in omega arith) (omega arith) i m e in omega arith

-- One more stands at the end of a list.
module _ {X : Type 0} (ws : List X) (w : X) (new : List X) (is : new ≡ ws ++ w ∷ []) where
  pub made_of : {S : Type 0} (f : X → S) (left rest all : List S) → left ≡ f w ∷ rest → map f ws ++ left ≡ all → map f new ++ rest ≡ all
  made_of {S} f left rest all split h = ap (λ (ys : List X). map f ys ++ rest) is ∙ made ws w f left rest all split h

  pub numbered_of : (f : X → ℕ) → AreNumbered (map f ws) → length ws ≡ f w → AreNumbered (map f new)
  numbered_of f h long =
      let e = map-append f ws (w ∷ []) in
      let l = length-map ws f in
      subst (λ (ys : List ℕ). AreNumbered ys) (sym (ap (λ (ys : List X). map f ys) is ∙ e)) (numbered_more (map f ws) (f w) h (l ∙ long))

  pub all_of : (P : X → Type 0) → All P ws → P w → All P new
  all_of P h p = subst (λ (ys : List X). All P ys) (sym is) (All-push P ws w h p)

  pub longer : length new ≡ length ws + 1
  longer = let e = ap (λ (ys : List X). length ys) is in let l = length-append ws (w ∷ []) in omega arith

-- Before the first stands nothing.
module _ {X : Type 0} (ws : List X) (is : ws ≡ []) where
  pub none_numbered : (f : X → ℕ) → AreNumbered (map f ws)
  none_numbered f = subst (λ (ys : List X). AreNumbered (map f ys)) (sym is) (λ i n e. absurd (not_some n e))

  pub none_of : (P : X → Type 0) → All P ws
  none_of P = subst (λ (ys : List X). All P ys) (sym is) (All-nil P)

-- Behind the last all are taken.
pub all_taken : {S : Type 0} (done left all : List S) → done ++ left ≡ all → length left ≡ 0 → done ≡ all
all_taken {S} done left all h none = sym (append-nil done) ∙ ap (λ (ys : List S). done ++ ys) (sym (nil_from_length left none)) ∙ h
