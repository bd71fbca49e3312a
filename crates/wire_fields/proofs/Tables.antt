-- A message that is written field by field.
use Rattle.std.proofs.Common.{◌≡◌, ℕ, suc, ◌+◌, ◌-◌, ◌<◌, ◌≤◌, List, [], ◌∷◌, ◌++◌, length, get_or, take, drop, map, refl, sym, ap, subst, ◌∙◌, append_assoc, add-one, arith}
use Rattle.std.proofs.Math.Seq.{drop-cons}
use Rattle.std.proofs.lemmas.List.{take-append-drop, drop_all, append-nil}
use Rattle.std.proofs.lemmas.Slice.{take-put_mid, drop-put_mid}
use borrow.Rule.Slice.PartMut.{put_mid}
use Rattle.wire_fields.specs.declared.kind.Kind.{Kind}
use Rattle.wire_fields.specs.declared.writing.Value.{Value}
use Rattle.wire_fields.specs.Kinds.{width}
use Rattle.wire_fields.specs.Values.{spelled, told, HasWidth}
use Rattle.wire_fields.specs.Wire.{total_width, spelled_fields, HaveWidths}

-- What stands before an offset and what is left to write are the message; what follows the message stands as before.
pub record IsWritten (ks : List Kind) (vs : List Value) (at : ℕ) (message : List ℕ) (size : ℕ) (before out : List ℕ) : Type 0 where
  pub room : at + total_width ks ≡ size
  pub fitting : HaveWidths ks vs
  pub written : take at out ++ spelled_fields ks (map told vs) ≡ message
  pub rest : drop size out ≡ drop size before

-- one field more
write_field : (k : Kind) (ks : List Kind) (v : Value) (vs : List Value) (at n : ℕ) (message : List ℕ) (size : ℕ) (before out part : List ℕ)
    → IsWritten (k ∷ ks) (v ∷ vs) at message size before out → size ≤ length out → n ≡ width k → part ≡ spelled k (told v) → length part ≡ n
    → IsWritten ks vs (at + n) message size before (put_mid at (at + n - at) out part)
write_field k ks v vs at n message size before out part is long n_is part_is len =
    let within : at + width k + total_width ks ≡ size = omega (arith, is.room) in
    let front : take (at + n) (put_mid at (at + n - at) out part) ≡ take at out ++ part = take-put_mid at (at + n - at) out part (at + n) (omega arith) (omega arith) in
    let back : drop size (put_mid at (at + n - at) out part) ≡ drop size out = drop-put_mid at (at + n - at) out part size (omega arith) (omega arith) (omega arith) in
    record {
      room = omega arith;
      fitting = is.fitting.1;
      written = rw (front, part_is, append_assoc) is.written;
      rest = back ∙ is.rest;
    }

same_lengths : (ks : List Kind) (vs : List Value) → HaveWidths ks vs → length ks ≡ length vs
same_lengths [] [] h = refl
same_lengths [] (v ∷ vs) h = absurd h
same_lengths (k ∷ ks) [] h = absurd h
same_lengths (k ∷ ks) (v ∷ vs) h = ap suc (same_lengths ks vs h.1)

next_kind : (ks : List Kind) (i : ℕ) (d : Kind) → i < length ks → drop i ks ≡ get_or ks i d ∷ drop (i + 1) ks
next_kind ks i d lt = rw add-one (drop-cons ks i d lt)

next_value : (vs : List Value) (i : ℕ) (d : Value) → i < length vs → drop i vs ≡ get_or vs i d ∷ drop (i + 1) vs
next_value vs i d lt = rw add-one (drop-cons vs i d lt)

-- the width of the value at a place
pub width_there : (ks : List Kind) (vs : List Value) (i : ℕ) (k : Kind) (v : Value) → i < length ks → HaveWidths ks vs
    → HaveWidths (drop i ks) (drop i vs) → HasWidth (get_or ks i k) (get_or vs i v)
width_there ks vs i k v lt all h =
    let there : i < length vs = omega (arith, same_lengths ks vs all) in
    let both : HaveWidths (get_or ks i k ∷ drop (i + 1) ks) (get_or vs i v ∷ drop (i + 1) vs) =
    subst (λ (values : List Value). HaveWidths (get_or ks i k ∷ drop (i + 1) ks) values) (next_value vs i v there)
    (subst (λ (kinds : List Kind). HaveWidths kinds (drop i vs)) (next_kind ks i k lt) h) in
    both.0

-- the field at a place
pub write_at : (ks : List Kind) (vs : List Value) (i : ℕ) (k : Kind) (v : Value) (at n : ℕ) (message : List ℕ) (size : ℕ) (before out part : List ℕ)
    → i < length ks → HaveWidths ks vs → IsWritten (drop i ks) (drop i vs) at message size before out → size ≤ length out
    → n ≡ width (get_or ks i k) → part ≡ spelled (get_or ks i k) (told (get_or vs i v)) → length part ≡ n
    → IsWritten (drop (i + 1) ks) (drop (i + 1) vs) (at + n) message size before (put_mid at (at + n - at) out part)
write_at ks vs i k v at n message size before out part lt all is long n_is part_is len =
    let there : i < length vs = omega (arith, same_lengths ks vs all) in
    let P : List Kind → List Value → Type 0 = λ kinds values. IsWritten kinds values at message size before out in
    let both : P (get_or ks i k ∷ drop (i + 1) ks) (get_or vs i v ∷ drop (i + 1) vs) = rw (← next_kind ks i k lt, ← next_value vs i v there) is in
    write_field (get_or ks i k) (drop (i + 1) ks) (get_or vs i v) (drop (i + 1) vs) at n message size before out part both long n_is part_is len

-- nothing yet
pub write_first : (ks : List Kind) (vs : List Value) (out : List ℕ) → HaveWidths ks vs
    → IsWritten ks vs 0 (spelled_fields ks (map told vs)) (total_width ks) out out
write_first ks vs out h = record { room = omega arith; fitting = h; written = refl; rest = refl }

nothing_left : (vs : List Value) (at : ℕ) (message : List ℕ) (size : ℕ) (before out : List ℕ) → IsWritten [] vs at message size before out → out ≡ message ++ drop size before
nothing_left vs at message size before out is =
    let end : at ≡ size = omega (arith, is.room) in
    let front : take size out ≡ message = rw (← end) (sym (append-nil (take at out)) ∙ is.written) in
    sym (take-append-drop size out) ∙ rw (front, is.rest) refl

-- all fields
pub write_all : (ks : List Kind) (vs : List Value) (i at : ℕ) (message : List ℕ) (size : ℕ) (before out : List ℕ) → length ks ≤ i
    → IsWritten (drop i ks) (drop i vs) at message size before out → out ≡ message ++ drop size before
write_all ks vs i at message size before out le is =
    let none : drop i ks ≡ [] = drop_all i ks le in
    let P : List Kind → Type 0 = λ kinds. IsWritten kinds (drop i vs) at message size before out in
    nothing_left (drop i vs) at message size before out (subst P none is)
