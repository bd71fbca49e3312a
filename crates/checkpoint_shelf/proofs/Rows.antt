-- Lists, and words as lists.
use Rattle.std.proofs.Common.{◌≡◌, ℕ, zero, suc, ◌+◌, ◌<◌, List, [], ◌∷◌, ◌++◌, Some, slice_get, map, length, get_or, set, sym, refl, ap, ◌∙◌, arith, zero-add}
use mathlib.Core.Option.{some, some-ne-none, some-injective}
use lib.ListN.{get_elem?}
use Rattle.shelf_core.proofs.Lists.{some_same, not_some, within}
use Rattle.shelf_core.specs.declared.words.ClaimWord.{ClaimWord}
use Rattle.shelf_core.specs.declared.words.PlaceWord.{PlaceWord}
use Rattle.shelf_core.specs.declared.system.System.{System}
use Rattle.checkpoint_shelf.specs.Codes.{place_code, claim_code, done_code, words_of}

pub at_left : (xs ys : List ℕ) (i : ℕ) → i < length xs → get_or (xs ++ ys) i 0 ≡ get_or xs i 0
at_left [] ys i h = absurd (omega arith)
at_left (x ∷ xs) ys zero h = refl
at_left (x ∷ xs) ys (suc i) h = at_left xs ys i (omega arith)

pub set_left : (xs ys : List ℕ) (i a : ℕ) → i < length xs → set (xs ++ ys) i a ≡ set xs i a ++ ys
set_left [] ys i a h = absurd (omega arith)
set_left (x ∷ xs) ys zero a h = refl
set_left (x ∷ xs) ys (suc i) a h = ap (λ l. x ∷ l) (set_left xs ys i a (omega arith))

pub at_right : (xs ys : List ℕ) (i : ℕ) → get_or (xs ++ ys) (length xs + i) 0 ≡ get_or ys i 0
at_right [] ys i = rw (zero-add i) refl
at_right (x ∷ xs) ys i = let e : length (x ∷ xs) + i ≡ suc (length xs + i) = omega arith in ap (λ j. get_or ((x ∷ xs) ++ ys) j 0) e ∙ at_right xs ys i

pub set_right : (xs ys : List ℕ) (i a : ℕ) → set (xs ++ ys) (length xs + i) a ≡ xs ++ set ys i a
set_right [] ys i a = rw (zero-add i) refl
set_right (x ∷ xs) ys i a = let e : length (x ∷ xs) + i ≡ suc (length xs + i) = omega arith in ap (λ j. set ((x ∷ xs) ++ ys) j a) e ∙ ap (λ l. x ∷ l) (set_right xs ys i a)

pub set_same : (l : List ℕ) (i a : ℕ) → i < length l → get_or l i 0 ≡ a → set l i a ≡ l
set_same [] i a h e = refl
set_same (x ∷ xs) zero a h e = ap (λ y. y ∷ xs) (sym e)
set_same (x ∷ xs) (suc i) a h e = ap (λ l. x ∷ l) (set_same xs i a (omega arith) e)

module _ {A : Type 0} where
  pub length_map : {B : Type 0} (f : A → B) (l : List A) → length (map f l) ≡ length l
  length_map f [] = refl
  length_map f (x ∷ xs) = ap suc (length_map f xs)

  pub at_code : (f : A → ℕ) (l : List A) (i : ℕ) (a : A) → slice_get l i ≡ Some a → get_or (map f l) i 0 ≡ f a
  at_code f [] i a e = absurd (not_some a e)
  at_code f (x ∷ xs) zero a e = ap f (some_same x a e)
  at_code f (x ∷ xs) (suc i) a e = at_code f xs i a e

  pub set_map : {B : Type 0} (f : A → B) (l : List A) (i : ℕ) (a : A) → set (map f l) i (f a) ≡ map f (set l i a)
  set_map f [] i a = refl
  set_map f (x ∷ xs) zero a = refl
  set_map f (x ∷ xs) (suc i) a = ap (λ l. f x ∷ l) (set_map f xs i a)

  -- The table's lists are read by the one function, and the core's by the other.
  pub at_mapped : {B : Type 0} (f : A → B) (l : List A) (i : ℕ) (a : A) → get_elem? l i ≡ some a → slice_get (map f l) i ≡ Some (f a)
  at_mapped f [] i a e = absurd (some-ne-none a (sym e))
  at_mapped f (x ∷ xs) zero a e = ap (λ (y : A). Some (f y)) (some-injective x a e)
  at_mapped f (x ∷ xs) (suc i) a e = at_mapped f xs i a e

  pub elem_within : (l : List A) (i : ℕ) (a : A) → get_elem? l i ≡ some a → i < length l
  elem_within [] i a e = absurd (some-ne-none a (sym e))
  elem_within (x ∷ xs) zero a e = omega arith
  elem_within (x ∷ xs) (suc i) a e = let h : i < length xs = elem_within xs i a e in omega arith

pub claim_at : (s : System) (g : ℕ) (w : ClaimWord) → slice_get s.claims g ≡ Some w → get_or (words_of s) (suc (length s.places + g)) 0 ≡ claim_code w
claim_at s g w e = let l : length (map place_code s.places) ≡ length s.places = length_map place_code s.places in
    ap (λ n. get_or (map place_code s.places ++ map claim_code s.claims) (n + g) 0) (sym l) ∙ at_right (map place_code s.places) (map claim_code s.claims) g ∙ at_code claim_code s.claims g w e

pub set_claim : (s : System) (g : ℕ) (w : ClaimWord) → set (words_of s) (suc (length s.places + g)) (claim_code w) ≡ words_of (record s { claims = set s.claims g w })
set_claim s g w = let l : length (map place_code s.places) ≡ length s.places = length_map place_code s.places in let ps : List ℕ = map place_code s.places in let cs : List ℕ = map claim_code s.claims in
    ap (λ r. done_code s.done s.stopped ∷ r) ((ap (λ n. set (ps ++ cs) (n + g) (claim_code w)) (sym l) ∙ set_right ps cs g (claim_code w)) ∙ ap (λ r. ps ++ r) (set_map claim_code s.claims g w))

pub place_at : (s : System) (p : ℕ) (w : PlaceWord) → slice_get s.places p ≡ Some w → get_or (words_of s) (suc p) 0 ≡ place_code w
place_at s p w e = let i : p < length s.places = within s.places p w e in let l : length (map place_code s.places) ≡ length s.places = length_map place_code s.places in
    at_left (map place_code s.places) (map claim_code s.claims) p (omega arith) ∙ at_code place_code s.places p w e

pub set_place : (s : System) (p : ℕ) (w : PlaceWord) → p < length s.places → set (words_of s) (suc p) (place_code w) ≡ words_of (record s { places = set s.places p w })
set_place s p w i = let l : length (map place_code s.places) ≡ length s.places = length_map place_code s.places in
    ap (λ r. done_code s.done s.stopped ∷ r) (set_left (map place_code s.places) (map claim_code s.claims) p (place_code w) (omega arith) ∙ ap (λ r. r ++ map claim_code s.claims) (set_map place_code s.places p w))
