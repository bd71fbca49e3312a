-- Two runs that are read record by record, side by side.
use Rattle.std.proofs.Common.{◌≡◌, ◌∙◌, ℕ, ◌+◌, Bool, true, false, List, [], ◌∷◌, length, ap, ap₂, sym, subst, arith}
use Rattle.market_types.specs.Told.{EventTold}
use Rattle.study_report.specs.Same.{same_event}
use Rattle.study_report.specs.Difference.{first_apart}
use Rattle.study_report.specs.Next.{Leads}
use Rattle.study_report.proofs.Apart.{part}

-- what was left before a record was read, and before none was
one_read : (xs xs' : List EventTold) (r : EventTold) (p : Bool) → Leads p r xs xs' → p ≡ true → xs ≡ r ∷ xs'
one_read xs xs' r p l x = subst (λ (k : Bool). Leads k r xs xs') x l

none_read : (xs xs' : List EventTold) (r : EventTold) (p : Bool) → Leads p r xs xs' → p ≡ false → xs ≡ []
none_read xs xs' r p l x = subst (λ (k : Bool). Leads k r xs xs') x l

pub ends_both : (d : ℕ) (xs ys xs' ys' : List EventTold) (r s : EventTold) (p q : Bool) → first_apart xs ys ≡ d → Leads p r xs xs' → Leads q s ys ys' → p ≡ false → q ≡ false → 0 ≡ d
ends_both d xs ys xs' ys' r s p q h l m x y = sym (ap₂ first_apart (none_read xs xs' r p l x) (none_read ys ys' s q m y)) ∙ h

pub ends_own : (d : ℕ) (xs ys xs' ys' : List EventTold) (r s : EventTold) (p q : Bool) → first_apart xs ys ≡ d → Leads p r xs xs' → Leads q s ys ys' → p ≡ false → q ≡ true → s.number ≡ d
ends_own d xs ys xs' ys' r s p q h l m x y = sym (ap₂ first_apart (none_read xs xs' r p l x) (one_read ys ys' s q m y)) ∙ h

pub ends_other : (d : ℕ) (xs ys xs' ys' : List EventTold) (r s : EventTold) (p q : Bool) → first_apart xs ys ≡ d → Leads p r xs xs' → Leads q s ys ys' → p ≡ true → q ≡ false → r.number ≡ d
ends_other d xs ys xs' ys' r s p q h l m x y = sym (ap₂ first_apart (one_read xs xs' r p l x) (none_read ys ys' s q m y)) ∙ h

-- two records that differ, and two that don't
compared_at : (xs ys xs' ys' : List EventTold) (r s : EventTold) (p q k : Bool) → Leads p r xs xs' → Leads q s ys ys' → p ≡ true → q ≡ true → same_event r s ≡ k → first_apart xs ys ≡ part k (first_apart xs' ys') r.number
compared_at xs ys xs' ys' r s p q k l m x y is =
    ap₂ first_apart (one_read xs xs' r p l x) (one_read ys ys' s q m y) ∙ ap (λ (b : Bool). part b (first_apart xs' ys') r.number) is

pub differs : (d : ℕ) (xs ys xs' ys' : List EventTold) (r s : EventTold) (p q : Bool) → first_apart xs ys ≡ d → Leads p r xs xs' → Leads q s ys ys' → p ≡ true → q ≡ true → same_event r s ≡ false → r.number ≡ d
differs d xs ys xs' ys' r s p q h l m x y f = sym (compared_at xs ys xs' ys' r s p q false l m x y f) ∙ h

pub goes_on : (d : ℕ) (xs ys xs' ys' : List EventTold) (r s : EventTold) (p q : Bool) → first_apart xs ys ≡ d → Leads p r xs xs' → Leads q s ys ys' → p ≡ true → q ≡ true → same_event r s ≡ true → first_apart xs' ys' ≡ d
goes_on d xs ys xs' ys' r s p q h l m x y t = sym (compared_at xs ys xs' ys' r s p q true l m x y t) ∙ h

pub shorter : (xs xs' : List EventTold) (r : EventTold) (p : Bool) → Leads p r xs xs' → p ≡ true → length xs ≡ length xs' + 1
shorter xs xs' r p l x = ap (λ (rs : List EventTold). length rs) (one_read xs xs' r p l x) ∙ omega arith
