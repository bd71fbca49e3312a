-- Chains of segments.
use Rattle.std.proofs.Common.{◌≡◌, ◌≤◌, ◌<◌, ℕ, Bool, true, false, ◌||◌, ◌==◌, ◌⊎◌, inl, inr, List, [], ◌∷◌, ◌++◌, Option, Some, None, option_map, unwrap_or, length, refl, sym, ap, ◌∙◌, arith, subst, suc, zero}
use Rattle.std.specs.List.{list_any}
use Rattle.std.proofs.lemmas.Bool.{cases_eq, eq-eqb, ne_eqb, eqb-true, or_left, or_right}
use Rattle.std.proofs.lemmas.List.Folds.{list_any-append}
use Rattle.branch_tree.specs.Plan.{Plan}
use Rattle.branch_tree.specs.Segments.{segments_in, segment_at}
use Rattle.branch_tree.specs.Planned.{IsTree}
use Rattle.kernel_copy.specs.Segmentwise.{chain_within, chain_to}
use Rattle.kernel_copy.proofs.Walks.{has_parent}
use Rattle.rewind_desk.specs.Best.{is_on}
use Rattle.rewind_desk.specs.Reach.{IsOn}

pub parent_cases : (x : Option ℕ) → (x ≡ None) ⊎ ((q : ℕ) × (x ≡ Some q))
parent_cases None = inl refl
parent_cases (Some q) = inr (q, refl)

chain-none : (n : ℕ) (p : Plan) (s : ℕ) → (segment_at p s).parent ≡ None → chain_within n p s ≡ s ∷ []
chain-none zero p s none = refl
chain-none (suc n) p s none = ap (λ (x : Option ℕ). unwrap_or (option_map (λ (q : ℕ). chain_within n p q) x) [] ++ s ∷ []) none

chain-some : (n : ℕ) (p : Plan) (s q : ℕ) → (segment_at p s).parent ≡ Some q → chain_within (suc n) p s ≡ chain_within n p q ++ s ∷ []
chain-some n p s q is = ap (λ (x : Option ℕ). unwrap_or (option_map (λ (q : ℕ). chain_within n p q) x) [] ++ s ∷ []) is

-- no more ancestors than its number says
chain-fuel : (n m : ℕ) (p : Plan) (s : ℕ) → IsTree p.branches p.limit → s < length (segments_in p) → s ≤ n → s ≤ m → chain_within n p s ≡ chain_within m p s
chain-fuel zero m p s t l hn hm = elim (parent_cases (segment_at p s).parent) [
  | inl none ↦ chain-none zero p s none ∙ sym (chain-none m p s none)
  | inr some ↦ let k = has_parent p s some.0 t l some.1 in absurd (omega (arith, k.earlier))
]
chain-fuel (suc n) zero p s t l hn hm = elim (parent_cases (segment_at p s).parent) [
  | inl none ↦ chain-none (suc n) p s none ∙ sym (chain-none zero p s none)
  | inr some ↦ let k = has_parent p s some.0 t l some.1 in absurd (omega (arith, k.earlier))
]
chain-fuel (suc n) (suc m) p s t l hn hm = elim (parent_cases (segment_at p s).parent) [
  | inl none ↦ chain-none (suc n) p s none ∙ sym (chain-none (suc m) p s none)
  | inr some ↦
      let q = some.0 in
      let k = has_parent p s q t l some.1 in
      chain-some n p s q some.1
      ∙ ap (λ (xs : List ℕ). xs ++ s ∷ []) (chain-fuel n m p q t (omega (arith, k.earlier)) (omega (arith, k.earlier)) (omega (arith, k.earlier)))
      ∙ sym (chain-some m p s q some.1)
]

-- the chain of a segment without a parent, and of one with a parent
pub chain-first : (p : Plan) (s : ℕ) → (segment_at p s).parent ≡ None → chain_to p s ≡ s ∷ []
chain-first p s none = chain-none s p s none

chain-more_at : (n : ℕ) (p : Plan) (s q : ℕ) → n ≡ s → IsTree p.branches p.limit → s < length (segments_in p) → (segment_at p s).parent ≡ Some q → chain_within n p s ≡ chain_within q p q ++ s ∷ []
chain-more_at zero p s q e t l is = let k = has_parent p s q t l is in absurd (omega (arith, k.earlier))
chain-more_at (suc n) p s q e t l is =
    let k = has_parent p s q t l is in
    chain-some n p s q is
    ∙ ap (λ (xs : List ℕ). xs ++ s ∷ []) (chain-fuel n q p q t (omega (arith, k.earlier)) (omega (arith, k.earlier)) (omega arith))

pub chain-more : (p : Plan) (s q : ℕ) → IsTree p.branches p.limit → s < length (segments_in p) → (segment_at p s).parent ≡ Some q → chain_to p s ≡ chain_to p q ++ s ∷ []
chain-more p s q t l is = chain-more_at s p s q refl t l is

-- a segment is on its own chain
on-end : (k s : ℕ) (xs : List ℕ) → s ≡ k → list_any (λ (q : ℕ). q == k) (xs ++ s ∷ []) ≡ true
on-end k s xs e = list_any-append (λ (q : ℕ). q == k) xs (s ∷ []) ∙ or_right (list_any (λ (q : ℕ). q == k) xs) (s == k || false) (or_left (s == k) false (eq-eqb s k e))

pub on-self : (p : Plan) (s : ℕ) → IsTree p.branches p.limit → s < length (segments_in p) → IsOn p s s
on-self p s t l = elim (parent_cases (segment_at p s).parent) [
  | inl none ↦ ap (λ (xs : List ℕ). list_any (λ (q : ℕ). q == s) xs) (chain-first p s none) ∙ on-end s s [] refl
  | inr some ↦ ap (λ (xs : List ℕ). list_any (λ (q : ℕ). q == s) xs) (chain-more p s some.0 t l some.1) ∙ on-end s s (chain_to p some.0) refl
]

-- and what is on its parent's chain is on its own
pub on-more : (p : Plan) (s q k : ℕ) → IsTree p.branches p.limit → s < length (segments_in p) → (segment_at p s).parent ≡ Some q → IsOn p q k → IsOn p s k
on-more p s q k t l is h =
    ap (λ (xs : List ℕ). list_any (λ (q : ℕ). q == k) xs) (chain-more p s q t l is)
    ∙ list_any-append (λ (q : ℕ). q == k) (chain_to p q) (s ∷ [])
    ∙ or_left (list_any (λ (q : ℕ). q == k) (chain_to p q)) (s == k || false) h

last_of_or : (x : Bool) (s k : ℕ) → (s ≡ k → ⊥) → (x || (s == k || false)) ≡ true → x ≡ true
last_of_or true s k n h = refl
last_of_or false s k n h = let e : (s == k || false) ≡ false = ap (λ (t : Bool). t || false) (ne_eqb s k n) in sym e ∙ h

-- what is on a chain is its last segment or on the parent's chain
pub on-parent : (p : Plan) (s q k : ℕ) → IsTree p.branches p.limit → s < length (segments_in p) → (segment_at p s).parent ≡ Some q → (s ≡ k → ⊥) → IsOn p s k → IsOn p q k
on-parent p s q k t l is n h = last_of_or (list_any (λ (q : ℕ). q == k) (chain_to p q)) s k n
    (sym (ap (λ (xs : List ℕ). list_any (λ (q : ℕ). q == k) xs) (chain-more p s q t l is) ∙ list_any-append (λ (q : ℕ). q == k) (chain_to p q) (s ∷ [])) ∙ h)

or_nothing : (x : Bool) → (x || false) ≡ true → x ≡ true
or_nothing true h = refl
or_nothing false h = h

pub on-first : (p : Plan) (s k : ℕ) → (segment_at p s).parent ≡ None → IsOn p s k → s ≡ k
on-first p s k none h = eqb-true s k (or_nothing (s == k) (sym (ap (λ (xs : List ℕ). list_any (λ (q : ℕ). q == k) xs) (chain-first p s none)) ∙ h))

or_rest : (x : Bool) (s k : ℕ) → (s ≡ k → ⊥) → (x || (s == k || false)) ≡ x
or_rest true s k n = refl
or_rest false s k n = ap (λ (t : Bool). t || false) (ne_eqb s k n)

-- whether a segment is on a chain, by the chain's last segment and the parent's chain
pub on-at : (p : Plan) (s k : ℕ) → IsTree p.branches p.limit → s < length (segments_in p) → s ≡ k → is_on p s k ≡ true
on-at p s k t l e = subst (λ (x : ℕ). is_on p s x ≡ true) e (on-self p s t l)

pub on-alone : (p : Plan) (s k : ℕ) → (segment_at p s).parent ≡ None → (s ≡ k → ⊥) → is_on p s k ≡ false
on-alone p s k none n = ap (λ (xs : List ℕ). list_any (λ (q : ℕ). q == k) xs) (chain-first p s none) ∙ or_rest false s k n

pub on-further : (p : Plan) (s q k : ℕ) → IsTree p.branches p.limit → s < length (segments_in p) → (segment_at p s).parent ≡ Some q → (s ≡ k → ⊥) → is_on p s k ≡ is_on p q k
on-further p s q k t l is n =
    ap (λ (xs : List ℕ). list_any (λ (q : ℕ). q == k) xs) (chain-more p s q t l is)
    ∙ list_any-append (λ (q : ℕ). q == k) (chain_to p q) (s ∷ [])
    ∙ or_rest (is_on p q k) s k n

-- a chain's segments are at most its last, and so segments of the plan
on-low : (n : ℕ) (p : Plan) (s k : ℕ) → IsTree p.branches p.limit → s < length (segments_in p) → s ≤ n → IsOn p s k → k ≤ s
on-low zero p s k t l low on = elim (parent_cases (segment_at p s).parent) [
  | inl none ↦ omega (arith, on-first p s k none on)
  | inr some ↦ let parent = has_parent p s some.0 t l some.1 in absurd (omega (arith, parent.earlier))
]
on-low (suc n) p s k t l low on = elim (parent_cases (segment_at p s).parent) [
  | inl none ↦ omega (arith, on-first p s k none on)
  | inr some ↦ elim (cases_eq s k) [
    | inl same ↦ omega arith
    | inr other ↦
        let q = some.0 in
        let parent = has_parent p s q t l some.1 in
        omega (arith, parent.earlier, on-low n p q k t (omega (arith, parent.earlier)) (omega (arith, parent.earlier)) (on-parent p s q k t l some.1 other on))
  ]
]

pub on-below : (p : Plan) (s k : ℕ) → IsTree p.branches p.limit → s < length (segments_in p) → IsOn p s k → k < length (segments_in p)
on-below p s k t l on = omega (arith, on-low s p s k t l (omega arith) on)

pub on-early : (p : Plan) (s k : ℕ) → IsTree p.branches p.limit → s < length (segments_in p) → IsOn p s k → k ≤ s
on-early p s k t l on = on-low s p s k t l (omega arith) on

-- the parent of what is on a chain is on it too
on-up-here : (p : Plan) (s k q : ℕ) → IsTree p.branches p.limit → s < length (segments_in p) → (segment_at p k).parent ≡ Some q → s ≡ k → IsOn p s q
on-up-here p s k q t l is same =
    let mine : (segment_at p s).parent ≡ Some q = ap (λ (x : ℕ). (segment_at p x).parent) same ∙ is in
    let parent = has_parent p s q t l mine in
    on-more p s q q t l mine (on-self p q t (omega (arith, parent.earlier, l)))

on-up : (n : ℕ) (p : Plan) (s k q : ℕ) → IsTree p.branches p.limit → s < length (segments_in p) → s ≤ n → IsOn p s k → (segment_at p k).parent ≡ Some q → IsOn p s q
on-up zero p s k q t l low on is = elim (cases_eq s k) [
  | inl same ↦ on-up-here p s k q t l is same
  | inr other ↦ elim (parent_cases (segment_at p s).parent) [
    | inl none ↦ absurd (other (on-first p s k none on))
    | inr some ↦ let parent = has_parent p s some.0 t l some.1 in absurd (omega (arith, parent.earlier, low))
  ]
]
on-up (suc n) p s k q t l low on is = elim (cases_eq s k) [
  | inl same ↦ on-up-here p s k q t l is same
  | inr other ↦ elim (parent_cases (segment_at p s).parent) [
    | inl none ↦ absurd (other (on-first p s k none on))
    | inr some ↦
        let r = some.0 in
        let parent = has_parent p s r t l some.1 in
        on-more p s r q t l some.1 (on-up n p r k q t (omega (arith, parent.earlier, l)) (omega (arith, parent.earlier, low)) (on-parent p s r k t l some.1 other on) is)
  ]
]

pub on-parents : (p : Plan) (s k q : ℕ) → IsTree p.branches p.limit → s < length (segments_in p) → IsOn p s k → (segment_at p k).parent ≡ Some q → IsOn p s q
on-parents p s k q t l on is = on-up s p s k q t l (omega arith) on is
