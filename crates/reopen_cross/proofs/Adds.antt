-- How the shares of a list add up.
use Rattle.std.proofs.Common.{◌≡◌, ◌++◌, zero, suc, None, append-nil, append_assoc, ℕ, ◌+◌, Bool, true, false, cond, List, [], ◌∷◌, refl, sym, ap, ◌∙◌, arith, sum_by, filter}
use Rattle.std.proofs.lemmas.List.Sums.{sum_by-cons}
use Rattle.market_types.specs.declared.order.Side.{Side}
use Rattle.market_types.specs.declared.order.Side.TheVariants.{Buy}
use Rattle.reopen_cross.specs.declared.cross.Interest.{Interest}
use Rattle.reopen_cross.specs.declared.cross.Part.{Part}
use Rattle.reopen_cross.specs.Parts.{filled, first_ahead}

abbrev left-of : Interest → ℕ
left-of o = o.left

-- one order more
pub passed-cons : (test : Interest → Bool) (o : Interest) (os : List Interest) → sum_by left-of (filter test (o ∷ os)) ≡ cond (test o) o.left 0 + sum_by left-of (filter test os)
passed-cons test o os = elim (test o) as (λ b. sum_by left-of (cond b (o ∷ filter test os) (filter test os)) ≡ cond b o.left 0 + sum_by left-of (filter test os)) [ true ↦ sum_by-cons left-of o (filter test os) | false ↦ omega arith ]

-- the default of a read
abbrev pub nobody : Interest
nobody = record { reference = 0; side = Buy; price = 0; left = 0; shown = false }

-- ---- filling, a turn at a time
pub filled-none : (n : ℕ) (side : Side) (w : ℕ) (os : List Interest) → first_ahead side os ≡ None → filled n side w os ≡ []
filled-none zero side w os e = refl
filled-none (suc n) side w [] e = refl
filled-none (suc n) side w (o ∷ os) e = absurd (cc e)

pub ends : (done a f : List Part) → f ≡ [] → done ++ f ≡ a → done ≡ a
ends done a f e h = sym (append-nil done) ∙ ap (λ v. done ++ v) (sym e) ∙ h

pub goes-on : (done : List Part) (x : Part) (f g all new : List Part) → done ++ f ≡ all → f ≡ x ∷ g → new ≡ done ++ x ∷ [] → new ++ g ≡ all
goes-on done x f g all new h e p = rw p (rw append_assoc (ap (λ v. done ++ v) (sym e) ∙ h))
