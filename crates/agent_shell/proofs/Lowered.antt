-- What `lowered` is, by what a look-up finds.
use Rattle.std.proofs.Common.{◌≡◌, ℕ, ◌<◌, ◌≤◌, ◌-◌, true, false, List, [], ◌∷◌, Some, None, position, remove, refl, ap, sym, ◌∙◌, inl, inr, arith, le-leb}
use Rattle.std.proofs.lemmas.Bool.{cases_Bool}
use Rattle.std.proofs.lemmas.Option.{same_Some}
use Rattle.std.proofs.lemmas.Bool.Decides.{nat_tests}
use Rattle.std.specs.Prelude.{nat_le}
use Rattle.std.specs.Map.{keys_of, lookup, remove_entry}
use Rattle.indexmap.specs.IndexMap.{insert_entry, set_value_at}
use Rattle.indexmap.proofs.MapLemmas.{Found-position, Missing-position, insert_entry-first, remove_entry-first}
use Rattle.market_types.specs.declared.order.Token.{Token}
use Rattle.agent_shell.specs.declared.shell.OwnOrder.{OwnOrder}
use Rattle.agent_shell.specs.Own.{lowered, same_token}

lowered-absent : (t : Token) (k : ℕ) (es : List (Token × OwnOrder)) → lookup (same_token t) es ≡ None → lowered t k es ≡ es
lowered-absent t k [] none = refl
lowered-absent t k (e ∷ es) none =
    elim (cases_Bool (same_token t e.0)) [
      | inl here ↦ let bad : Some e.1 ≡ None = rw here at none in absurd (cc bad)
      | inr other ↦ let rest : lookup (same_token t) es ≡ None = rw other at none in rw (other, lowered-absent t k es rest)
    ]

lowered-removes : (t : Token) (k : ℕ) (o : OwnOrder) (es : List (Token × OwnOrder)) → lookup (same_token t) es ≡ Some o → o.left ≤ k → remove_entry (same_token t) es ≡ lowered t k es
lowered-removes t k o [] found low = absurd (cc found)
lowered-removes t k o (e ∷ es) found low =
    elim (cases_Bool (same_token t e.0)) [
      | inl here ↦
          let is : e.1 ≡ o = same_Some _ _ (rw here at found) in
          let left : nat_le e.1.left k ≡ true = rw is (le-leb o.left k low) in
          rw (here, left)
      | inr other ↦ let rest : lookup (same_token t) es ≡ Some o = rw other at found in rw (other, lowered-removes t k o es rest low)
    ]

lowered-sets : (t : Token) (k : ℕ) (o : OwnOrder) (es : List (Token × OwnOrder)) → lookup (same_token t) es ≡ Some o → k < o.left
    → insert_entry same_token es t (record o { left = o.left - k }) ≡ lowered t k es
lowered-sets t k o [] found high = absurd (cc found)
lowered-sets t k o (e ∷ es) found high =
    elim (cases_Bool (same_token t e.0)) [
      | inl here ↦
          let is : e.1 ≡ o = same_Some _ _ (rw here at found) in
          let above : nat_le o.left k ≡ false = grind (arith, nat_tests) in
          let left : nat_le e.1.left k ≡ false = rw is above in
          rw (here, left) (ap (λ (x : OwnOrder). (e.0, record x { left = x.left - k }) ∷ es) (sym is))
      | inr other ↦ let rest : lookup (same_token t) es ≡ Some o = rw other at found in rw (other, lowered-sets t k o es rest high)
    ]

-- no order of the token is in the list
pub lowered-nowhere : (t : Token) (k : ℕ) (es : List (Token × OwnOrder)) → position (same_token t) (keys_of es) ≡ None → es ≡ lowered t k es
lowered-nowhere t k es none = sym (lowered-absent t k es (Missing-position (same_token t) es none).value)

-- the order of the token stands at a place
pub lowered-removes_at : (t : Token) (k : ℕ) (o : OwnOrder) (es : List (Token × OwnOrder)) (i : ℕ) → position (same_token t) (keys_of es) ≡ Some i → lookup (same_token t) es ≡ Some o → o.left ≤ k
    → remove es i ≡ lowered t k es
lowered-removes_at t k o es i at found low =
    sym (remove_entry-first (same_token t) es i (Found-position (same_token t) es i at).first) ∙ lowered-removes t k o es found low

pub lowered-sets_at : (t : Token) (k : ℕ) (o : OwnOrder) (es : List (Token × OwnOrder)) (i : ℕ) → position (same_token t) (keys_of es) ≡ Some i → lookup (same_token t) es ≡ Some o → k < o.left
    → set_value_at es i (record o { left = o.left - k }) ≡ lowered t k es
lowered-sets_at t k o es i at found high =
    sym (insert_entry-first same_token t (record o { left = o.left - k }) es i (Found-position (same_token t) es i at).first) ∙ lowered-sets t k o es found high
