-- A shelf is laid out for its plan and stride.
use Rattle.std.proofs.Common.{◌≡◌, ◌<◌, ◌≤◌, ◌+◌, ◌-◌, ◌%◌, ◌==◌, ℕ, suc, zero, Bool, true, false, List, [], ◌∷◌, ◌++◌, length, get_or, if◌then◌else◌, inl, inr, sym, ◌∙◌, subst, eq-eqb, arith}
use Rattle.std.proofs.lemmas.Bool.{cases_eq, or_left, or_right}
use Rattle.std.proofs.lemmas.List.Folds.{list_any-append}
use Rattle.branch_tree.specs.declared.segment.Segment.{Segment}
use Rattle.branch_tree.specs.Plan.{Plan}
use Rattle.branch_tree.specs.Segments.{segments_in, no_segment}
use Rattle.shelf_core.specs.declared.plan.Key.{Key}
use Rattle.shelf_core.specs.Plan.{is_in, same_key}
use Rattle.shelf_core.proofs.Plans.{key_self}
use Rattle.branch_workers.specs.Layout.{key_at, multiples_from, start_number, stop_number, grid_of, grids_from, layout}
use Rattle.branch_workers.proofs.Forks.{end_is_fork}
use Rattle.rewind_desk.specs.Sure.{IsLaidFor}

-- a list with or without one more in front
abbrev with-key : Bool → Key → List Key → List Key
with-key b x keys = if b then x ∷ keys else keys

here-in : (b : Bool) (x : Key) (keys : List Key) → b ≡ true → is_in x (with-key b x keys) ≡ true
here-in b x keys e = subst (λ (c : Bool). is_in x (with-key c x keys) ≡ true) (sym e) (or_left (same_key x x) (is_in x keys) (key_self x))

later-in : (b : Bool) (x key : Key) (keys : List Key) → is_in key keys ≡ true → is_in key (with-key b x keys) ≡ true
later-in true x key keys e = or_right (same_key x key) (is_in key keys) e
later-in false x key keys e = e

-- a key of the first or of the second list is one of both together
pub in-left : (k : Key) (xs ys : List Key) → is_in k xs ≡ true → is_in k (xs ++ ys) ≡ true
in-left k xs ys e = list_any-append (λ x. same_key x k) xs ys ∙ or_left (is_in k xs) (is_in k ys) e

pub in-right : (k : Key) (xs ys : List Key) → is_in k ys ≡ true → is_in k (xs ++ ys) ≡ true
in-right k xs ys e = list_any-append (λ x. same_key x k) xs ys ∙ or_right (is_in k xs) (is_in k ys) e

multiples-have : (stride s e n k : ℕ) → e ≤ k → k < e + n → k % stride ≡ 0 → is_in (key_at s k) (multiples_from stride s e n) ≡ true
multiples-have stride s e zero k from below divides = absurd (omega (arith, from, below))
multiples-have stride s e (suc n) k from below divides =
    let more = multiples_from stride s (e + 1) n in
    elim (cases_eq k e) [
      | inl is ↦
          let d : e % stride ≡ 0 = subst (λ (m : ℕ). m % stride ≡ 0) is divides in
          subst (λ (m : ℕ). is_in (key_at s m) (multiples_from stride s e (suc n)) ≡ true) (sym is) (here-in (e % stride == 0) (key_at s e) more (eq-eqb (e % stride) 0 d))
      | inr other ↦ later-in (e % stride == 0) (key_at s e) (key_at s k) more
          (multiples-have stride s (e + 1) n k (omega (arith, from, other)) (omega (arith, below)) divides)
    ]

grid-has : (limit stride s k : ℕ) (g : Segment) → start_number g.start < k → k < stop_number limit g.stop → k % stride ≡ 0 → is_in (key_at s k) (grid_of limit stride s g) ≡ true
grid-has limit stride s k g from below divides =
    multiples-have stride s (start_number g.start + 1) (stop_number limit g.stop - (start_number g.start + 1)) k (omega (arith, from)) (omega (arith, from, below)) divides

grids-have : (limit stride n : ℕ) (gs : List Segment) (i s k : ℕ) → s ≡ n + i → i < length gs → start_number (get_or gs i no_segment).start < k → k < stop_number limit (get_or gs i no_segment).stop
    → k % stride ≡ 0 → is_in (key_at s k) (grids_from limit stride n gs) ≡ true
grids-have limit stride n [] i s k at l from below divides = absurd (omega (arith, l))
grids-have limit stride n (g ∷ gs) zero s k at l from below divides =
    let is : n ≡ s = omega (arith, at) in
    subst (λ (m : ℕ). is_in (key_at s k) (grids_from limit stride m (g ∷ gs)) ≡ true) (sym is)
    (in-left (key_at s k) (grid_of limit stride s g) (grids_from limit stride (s + 1) gs) (grid-has limit stride s k g from below divides))
grids-have limit stride n (g ∷ gs) (suc i) s k at l from below divides =
    in-right (key_at s k) (grid_of limit stride n g) (grids_from limit stride (n + 1) gs)
    (grids-have limit stride (n + 1) gs i s k (omega (arith, at)) (omega (arith, l)) from below divides)

pub is-laid : (p : Plan) (stride places : ℕ) → IsLaidFor p stride (layout p stride places)
is-laid p stride places = record {
  forks = λ s l u. end_is_fork p s l u;
  grid = λ s n l from below divides. grids-have p.limit stride 0 (segments_in p) s s n (omega arith) l from below divides;
}
