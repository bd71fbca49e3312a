-- Any of the slots that a seat has comes to the front.
use Rattle.std.proofs.Common.{◌≡◌, ◌≢◌, ℕ, zero, suc, ◌<◌, List, [], ◌∷◌, ◌++◌, length, set, sym, refl, ap, ◌∙◌, subst, arith}
use mathlib.Core.Option.{Option, some, none, some-ne-none}
use lib.ListN.{get_elem?}
use Rattle.atomic_table.specs.Table.{takes, gives, chain, Valid, homes_after, carried_after}
use Rattle.atomic_table.proofs.Lists.{set_here, set_else, set_again}
use Rattle.checkpoint_shelf.specs.Fronts.{held, NotIn, Distinct, AllOut, front}

module _ {A : Type 0} where
  within : (l : List A) (i : ℕ) (a : A) → get_elem? l i ≡ some a → i < length l
  within [] i a e = absurd (some-ne-none a (sym e))
  within (x ∷ xs) zero a e = omega arith
  within (x ∷ xs) (suc i) a e = let h : i < length xs = within xs i a e in omega arith

  long : (l : List A) (i : ℕ) (a : A) → length (set l i a) ≡ length l
  long [] i a = refl
  long (x ∷ xs) zero a = refl
  long (x ∷ xs) (suc i) a = ap suc (long xs i a)

  set_set : (l : List A) (i : ℕ) (a b : A) → set (set l i a) i b ≡ set l i b
  set_set [] i a b = refl
  set_set (x ∷ xs) zero a b = refl
  set_set (x ∷ xs) (suc i) a b = ap (λ l. x ∷ l) (set_set xs i a b)

  set_swap : (l : List A) (i j : ℕ) (a b : A) → i ≢ j → set (set l i a) j b ≡ set (set l j b) i a
  set_swap [] i j a b ne = refl
  set_swap (x ∷ xs) zero zero a b ne = absurd (ne refl)
  set_swap (x ∷ xs) zero (suc j) a b ne = refl
  set_swap (x ∷ xs) (suc i) zero a b ne = refl
  set_swap (x ∷ xs) (suc i) (suc j) a b ne = ap (λ l. x ∷ l) (set_swap xs i j a b (λ e. ne (ap suc e)))

not_tail : (p : ℕ) (qs rest : List ℕ) (q : ℕ) → NotIn q (qs ++ p ∷ rest) → p ≢ q
not_tail p [] rest q h = h.0
not_tail p (x ∷ xs) rest q h = not_tail p xs rest q h.1

module _ {S : Type 0} (d : S) where
  still_out : (hs : List (Option S)) (q : ℕ) (x : Option S) (ps : List ℕ) → NotIn q ps → AllOut hs ps → AllOut (set hs q x) ps
  still_out hs q x [] n o = tt
  still_out hs q x (p ∷ ps) n o = (set_else hs q p x n.0 ∙ o.0, still_out hs q x ps n.1 o.1)

  out_at : (hs : List (Option S)) (qs rest : List ℕ) (p : ℕ) → AllOut hs (qs ++ p ∷ rest) → get_elem? hs p ≡ some none
  out_at hs [] rest p o = o.0
  out_at hs (q ∷ qs) rest p o = out_at hs qs rest p o.1

  pub brings : (qs rest : List ℕ) (p : ℕ) (hs : List (Option S)) → Distinct (qs ++ p ∷ rest) → AllOut hs (qs ++ p ∷ rest)
      → Valid hs (held d (qs ++ p ∷ rest)) (front d qs p) × (homes_after hs (held d (qs ++ p ∷ rest)) (front d qs p) ≡ hs) × (carried_after (held d (qs ++ p ∷ rest)) (front d qs p) ≡ held d (p ∷ (qs ++ rest)))
  brings [] rest p hs dis out = (tt, refl, refl)
  brings (q ∷ qs) rest p hs dis out =
      let h1 : List (Option S) = set hs q (some d) in
      let ih = brings qs rest p h1 dis.1 (still_out hs q (some d) (qs ++ p ∷ rest) dis.0 out.1) in
      let c : List (ℕ × S) = held d (qs ++ p ∷ rest) in
      let ne : p ≢ q = not_tail p qs rest q dis.0 in
      let q_out : get_elem? hs q ≡ some none = out.0 in
      let p_out : get_elem? hs p ≡ some none = out_at hs (q ∷ qs) rest p out in
      let q_in = within hs q none q_out in
      let p_in = within hs p none p_out in
      let h2 : List (Option S) = set h1 p (some d) in
      let h3 : List (Option S) = set h2 q none in
      let at_q : get_elem? h2 q ≡ some (some d) = set_else h1 p q (some d) (λ e. ne (sym e)) ∙ set_here hs q (some d) q_in in
      let l1 = long hs q (some d) in let l2 = long h1 p (some d) in
      let at_p : get_elem? h3 p ≡ some (some d) = set_else h2 q p none ne ∙ set_here h1 p (some d) (omega arith) in
      let back : set h3 p none ≡ hs =
      ap (λ l. set l p none) (ap (λ l. set l q none) (set_swap hs q p (some d) (some d) (λ e. ne (sym e))) ∙ set_set (set hs p (some d)) q (some d) none ∙ set_swap hs p q (some d) none ne)
      ∙ set_set (set hs q none) p (some d) none
      ∙ ap (λ l. set l p none) (set_again hs q none q_out) ∙ set_again hs p none p_out in
      let after : carried_after c (front d qs p) ≡ held d (p ∷ (qs ++ rest)) = ih.2 in
      let T : List (Option S) → List (ℕ × S) → Type 0 = λ h cs.
      Valid h cs (chain gives (chain (takes q d) (takes p d))) × (homes_after h cs (chain gives (chain (takes q d) (takes p d))) ≡ hs) × (carried_after cs (chain gives (chain (takes q d) (takes p d))) ≡ held d (p ∷ q ∷ (qs ++ rest))) in
      let end : T h1 (held d (p ∷ (qs ++ rest))) = ((tt, (at_q, at_p)), back, refl) in
      let moved : T (homes_after h1 c (front d qs p)) (carried_after c (front d qs p)) = subst (λ (z : List (Option S) × List (ℕ × S)). T z.0 z.1) (λ i. (sym ih.1 i, sym after i)) end in
      ((tt, (ih.0, moved.0)), moved.1, moved.2)
