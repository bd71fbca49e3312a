-- What a decoder answers, from what `check` found of one type.
use Rattle.std.proofs.Common.{◌≡◌, ℕ, ◌<◌, true, false, List, [], ◌∷◌, length, get_or, slice_get, Option, Some, None, Ok, Err, refl, sym, ap, ◌∙◌, arith}
use Rattle.market_types.specs.declared.error.CodecError.{CodecError}
use Rattle.wire_fields.specs.declared.kind.Kind.{Kind}
use Rattle.wire_fields.proofs.Spelled.{message_again}
use Rattle.wire_fields.specs.Wire.{Wire, spelling, IsInRange, IsSpelled, IsRead, wire_in, wire_at, fault, refusal}

-- The letter of each message tells its fields, and a message comes back from its wire.
pub record IsTable {M : Type 0} (wire : M → Wire) (layout : ℕ → Option (List Kind)) (message : Wire → M) : Type 0 where
  pub kinds : (m : M) → layout (wire m).letter ≡ Some (wire m).kinds
  pub back : (m : M) → message (wire m) ≡ m

some_same : {A : Type 0} (a b : A) → Some a ≡ Some b → a ≡ b
some_same a b e = cc

begins : (bs : List ℕ) (letter : ℕ) → slice_get bs 0 ≡ Some letter → (0 < length bs) × (get_or bs 0 0 ≡ letter)
begins [] letter e = absurd cc
begins (b ∷ bs) letter e = (omega arith, some_same b letter e)

refusal_by : (layout : ℕ → Option (List Kind)) (bs : List ℕ) (letter : ℕ) (ks : List Kind) → 0 < length bs → get_or bs 0 0 ≡ letter → layout letter ≡ Some ks → refusal layout bs ≡ fault ks bs
refusal_by layout [] letter ks long is known = absurd (omega arith)
refusal_by layout (b ∷ bs) letter ks long is known = rw (is, known) refl

first_byte : (bs : List ℕ) (w : Wire) → IsSpelled bs w → get_or bs 0 0 ≡ w.letter
first_byte bs w is = rw is.same refl

kinds_by : {M : Type 0} (wire : M → Wire) (layout : ℕ → Option (List Kind)) (message : Wire → M) → IsTable wire layout message
    → (bs : List ℕ) (letter : ℕ) (ks : List Kind) → get_or bs 0 0 ≡ letter → layout letter ≡ Some ks → (m : M) → IsSpelled bs (wire m) → (wire m).kinds ≡ ks
kinds_by wire layout message table bs letter ks is known m spelled =
    let same : (wire m).letter ≡ letter = sym (first_byte bs (wire m) spelled) ∙ is in
    some_same (wire m).kinds ks (sym (table.kinds m) ∙ ap layout same ∙ known)

-- where the bytes passed, the message of their values is read
pub read_passed : {M : Type 0} (wire : M → Wire) (layout : ℕ → Option (List Kind)) (message : Wire → M) → IsTable wire layout message
    → (bs : List ℕ) (letter : ℕ) (ks : List Kind) → slice_get bs 0 ≡ Some letter → layout letter ≡ Some ks
    → IsSpelled bs (wire_at ks bs) → ((w : Wire) → w.kinds ≡ ks → IsSpelled bs w → (true ≡ true) × (w ≡ wire_at ks bs)) → None ≡ fault ks bs
    → (x : M) → wire x ≡ wire_in letter ks bs → IsRead wire layout bs (Ok x)
read_passed {M = M} wire layout message table bs letter ks first known spelled only none x x_is =
    let long = (begins bs letter first).0 in
    let is = (begins bs letter first).1 in
    let same : wire x ≡ wire_at ks bs = x_is ∙ ap (λ (first : ℕ). wire_in first ks bs) (sym is) in
    record {
      spelled = rw same spelled;
      only = λ m m_spelled.
          let other : wire m ≡ wire_at ks bs = (only (wire m) (kinds_by wire layout message table bs letter ks is known m m_spelled) m_spelled).1 in
          ap (λ (y : M). Ok y) (sym (table.back x) ∙ ap message (same ∙ sym other) ∙ table.back m);
      refused = none ∙ sym (refusal_by layout bs letter ks long is known);
    }

-- where they did not, nothing is
pub read_failed : {M : Type 0} (wire : M → Wire) (layout : ℕ → Option (List Kind)) (message : Wire → M) → IsTable wire layout message
    → (bs : List ℕ) (letter : ℕ) (ks : List Kind) → slice_get bs 0 ≡ Some letter → layout letter ≡ Some ks
    → ((w : Wire) → w.kinds ≡ ks → IsSpelled bs w → (false ≡ true) × (w ≡ wire_at ks bs)) → (e : CodecError) → Some e ≡ fault ks bs → IsRead wire layout bs (Err e)
read_failed wire layout message table bs letter ks first known only e some =
    let long = (begins bs letter first).0 in
    let is = (begins bs letter first).1 in
    record {
      spelled = tt;
      only = λ m m_spelled. let wrong = (only (wire m) (kinds_by wire layout message table bs letter ks is known m m_spelled) m_spelled).0 in absurd (cc wrong);
      refused = some ∙ sym (refusal_by layout bs letter ks long is known);
    }

-- bytes that begin with no type's letter spell nothing
pub read_unknown : {M : Type 0} (wire : M → Wire) (layout : ℕ → Option (List Kind)) (message : Wire → M) → IsTable wire layout message
    → (bs : List ℕ) → layout (get_or bs 0 0) ≡ None → (m : M) → IsSpelled bs (wire m) → ⊥
read_unknown wire layout message table bs unknown m spelled =
    let known : layout (get_or bs 0 0) ≡ Some (wire m).kinds = ap layout (first_byte bs (wire m) spelled) ∙ table.kinds m in
    absurd (cc (known, unknown))

-- what is written of a message in its ranges is spelled so
pub spelled_by : (bs : List ℕ) (w : Wire) → bs ≡ spelling w → IsInRange w → IsSpelled bs w
spelled_by bs w is in_range = record { same = is; in_range = in_range }

-- bytes spell one message of a table
pub one_value : {M : Type 0} (wire : M → Wire) (layout : ℕ → Option (List Kind)) (message : Wire → M) → IsTable wire layout message
    → (bs : List ℕ) (a b : M) → IsSpelled bs (wire a) → IsSpelled bs (wire b) → a ≡ b
one_value wire layout message table bs a b a_is b_is =
    let letter : (wire a).letter ≡ (wire b).letter = sym (first_byte bs (wire a) a_is) ∙ first_byte bs (wire b) b_is in
    let kinds : (wire a).kinds ≡ (wire b).kinds = some_same (wire a).kinds (wire b).kinds (sym (table.kinds a) ∙ ap layout letter ∙ table.kinds b) in
    let same : wire a ≡ wire b = (message_again (wire b).kinds bs (wire a) kinds a_is).same ∙ sym (message_again (wire b).kinds bs (wire b) refl b_is).same in
    sym (table.back a) ∙ ap message same ∙ table.back b
