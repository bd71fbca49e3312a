-- One order after another is taken back.
use Rattle.std.proofs.Common.{◌≡◌, ℕ, zero, suc, ◌+◌, arith, subst, [], ◌∷◌, drop, map, Some, ap}
use Rattle.std.specs.Prelude.{option_map, slice_get}
use Rattle.std.proofs.lemmas.Option.{same_Some}
use Rattle.market_types.specs.declared.order.Token.{Token}
use Rattle.agent_shell.specs.declared.shell.OwnOrder.{OwnOrder}
use Rattle.agent_shell.specs.Wakeup.{cancel_of}
use Rattle.agent_shell.specs.Own.{OwnList}

cancel-step : (own : OwnList) (i : ℕ) (t : Token) → option_map (λ (e : Token × OwnOrder). e.0) (slice_get own i) ≡ Some t
    → map (λ (e : Token × OwnOrder). cancel_of e.0) (drop i own) ≡ cancel_of t ∷ map (λ (e : Token × OwnOrder). cancel_of e.0) (drop (suc i) own)
cancel-step [] i t found = absurd (cc found)
cancel-step (e ∷ own) zero t found =
    let is : e.0 ≡ t = same_Some _ _ found in
    ap (λ x. cancel_of x ∷ map (λ (y : Token × OwnOrder). cancel_of y.0) own) is
cancel-step (e ∷ own) (suc i) t found = cancel-step own i t found

pub cancel-next : (own : OwnList) (i : ℕ) (t : Token) → option_map (λ (e : Token × OwnOrder). e.0) (slice_get own i) ≡ Some t
    → map (λ (e : Token × OwnOrder). cancel_of e.0) (drop i own) ≡ cancel_of t ∷ map (λ (e : Token × OwnOrder). cancel_of e.0) (drop (i + 1) own)
cancel-next own i t found =
    let next : suc i ≡ i + 1 = omega arith in
    subst (λ k. map (λ (e : Token × OwnOrder). cancel_of e.0) (drop i own) ≡ cancel_of t ∷ map (λ (e : Token × OwnOrder). cancel_of e.0) (drop k own)) next (cancel-step own i t found)
