-- What fields read is how they were written, and the other way round.
use Rattle.std.proofs.Common.{◌≡◌, ℕ, ◌+◌, ◌^◌, ◌<◌, ◌≤◌, Bool, true, false, cond, ◌&&◌, eqb, ltb, List, [], ◌∷◌, ◌++◌, length, get_or, take, drop, Option, Some, None, refl, sym, ap, subst, ◌∙◌, arith}
use Rattle.std.specs.List.{list_all}
use Rattle.std.proofs.lemmas.Bool.{ltb-true, lt-ltb, eqb-true, eq-eqb, and_parts, and_from}
use Rattle.std.proofs.lemmas.List.{take_at, drop_at, take-append-drop, drop-drop, drop_all, length-append, length-take, length-drop}
use Rattle.wire_fields.specs.declared.kind.Kind.{Kind}
use Rattle.wire_fields.specs.declared.kind.Kind.TheVariants.{Number}
use Rattle.wire_fields.specs.Kinds.{width, is_good}
use Rattle.wire_fields.specs.Numbers.{number_bytes, number_of}
use Rattle.wire_fields.specs.Values.{FieldValue, number, bytes, spelled, is_in_range, value_of}
use Rattle.wire_fields.specs.Wire.{Wire, IsSpelled, spelled_fields, are_in_range, total_width, field_at, bad_at, values_at, wire_at, AreGood}
use Rattle.wire_fields.proofs.Digits.{IsBytes, IsBytes-tail, IsBytes-take, IsBytes-drop, number_of-bound, length-number_bytes, number_of-number_bytes, number_bytes-number_of}

-- ---- one field

list_all-always : (bs : List ℕ) → list_all (λ b. true) bs ≡ true
list_all-always [] = refl
list_all-always (b ∷ bs) = list_all-always bs

are_bytes : (bs : List ℕ) → IsBytes bs → list_all (λ b. ltb b 256) bs ≡ true
are_bytes [] fits = refl
are_bytes (b ∷ bs) fits = and_from (ltb b 256) (list_all (λ b. ltb b 256) bs) (lt-ltb b 256 (fits 0)) (are_bytes bs (IsBytes-tail b bs fits))

number_good : (w : ℕ) (bs : List ℕ) → is_good (Number w) bs ≡ true
unfolding is_good
number_good w bs = list_all-always bs

text_good : (w : ℕ) (bs : List ℕ) (good : Bool) → (eqb (length bs) w && (good && list_all (λ b. ltb b 256) bs)) ≡ true → (good ≡ true) × (length bs ≡ w)
text_good w bs good h =
    let parts = and_parts (eqb (length bs) w) (good && list_all (λ b. ltb b 256) bs) h in
    ((and_parts good (list_all (λ b. ltb b 256) bs) parts.1).0, eqb-true (length bs) w parts.0)

pub record IsReadAgain (k : Kind) (v : FieldValue) : Type 0 where
  pub value : value_of k (spelled k v) ≡ v
  pub good : is_good k (spelled k v) ≡ true
  pub len : length (spelled k v) ≡ width k

-- a field that was written is read again
pub value_again : (k : Kind) (v : FieldValue) → is_in_range k v ≡ true → IsReadAgain k v
unfolding is_in_range
value_again (Number w) (number n) h = record { value = ap number (number_of-number_bytes w n (ltb-true n (256 ^ w) h)); good = number_good w (number_bytes w n); len = length-number_bytes w n }
value_again (Number w) (bytes bs) h = absurd cc
value_again k (number n) h = absurd cc
value_again k (bytes bs) h = let parts = text_good (width k) bs (is_good k bs) h in record { value = refl; good = parts.0; len = parts.1 }

text_in_range : (w : ℕ) (bs : List ℕ) (good : Bool) → IsBytes bs → length bs ≡ w → good ≡ true → (eqb (length bs) w && (good && list_all (λ b. ltb b 256) bs)) ≡ true
text_in_range w bs good fits len is = and_from (eqb (length bs) w) (good && list_all (λ b. ltb b 256) bs) (eq-eqb (length bs) w len) (and_from good (list_all (λ b. ltb b 256) bs) is (are_bytes bs fits))

-- a field that was read is in its range, and is written so
pub read_in_range : (k : Kind) (bs : List ℕ) → IsBytes bs → length bs ≡ width k → is_good k bs ≡ true → is_in_range k (value_of k bs) ≡ true
unfolding is_in_range
read_in_range (Number w) bs fits len good = lt-ltb (number_of bs) (256 ^ w) (subst (λ (n : ℕ). number_of bs < 256 ^ n) len (number_of-bound bs fits))
read_in_range k bs fits len good = text_in_range (width k) bs (is_good k bs) fits len good

pub read_spelled : (k : Kind) (bs : List ℕ) → IsBytes bs → length bs ≡ width k → spelled k (value_of k bs) ≡ bs
read_spelled (Number w) bs fits len = ap (λ (n : ℕ). number_bytes n (number_of bs)) (sym len) ∙ number_bytes-number_of bs fits
read_spelled k bs fits len = refl

-- ---- fields one after another

-- These values stand in the fields from an offset on.
pub record AreReadAgain (ks : List Kind) (vs : List FieldValue) (at : ℕ) (bs : List ℕ) : Type 0 where
  pub values : values_at ks at bs ≡ vs
  pub good : bad_at ks at bs ≡ None
  pub len : length (drop at bs) ≡ total_width ks

-- fields that were written are read again
pub values_again : (ks : List Kind) (vs : List FieldValue) (at : ℕ) (bs : List ℕ) → drop at bs ≡ spelled_fields ks vs → are_in_range ks vs ≡ true → AreReadAgain ks vs at bs
values_again [] [] at bs e h = record { values = refl; good = refl; len = ap length e }
values_again [] (v ∷ vs) at bs e h = absurd cc
values_again (k ∷ ks) [] at bs e h = absurd cc
values_again (k ∷ ks) (v ∷ vs) at bs e h =
    let parts = and_parts (is_in_range k v) (are_in_range ks vs) h in
    let one = value_again k v parts.0 in
    let field : take (width k) (drop at bs) ≡ spelled k v = rw e (take_at (spelled k v) (spelled_fields ks vs) (width k) one.len) in
    let left : drop (width k) (drop at bs) ≡ spelled_fields ks vs = rw e (drop_at (spelled k v) (spelled_fields ks vs) (width k) one.len) in
    let next : drop (at + width k) bs ≡ spelled_fields ks vs = sym (drop-drop (width k) at bs) ∙ left in
    let rest = values_again ks vs (at + width k) bs next parts.1 in
    record {
      values = rw (field, one.value, rest.values) refl;
      good = rw (field, one.good) rest.good;
      len = rw e (omega (arith, length-append (spelled k v) (spelled_fields ks vs), one.len, rest.len, ap length next));
    }

guarded : (b : Bool) (x : Option ℕ) (at : ℕ) → cond b x (Some at) ≡ None → (b ≡ true) × (x ≡ None)
guarded true x at e = (refl, e)
guarded false x at e = absurd cc

-- where no offset is bad, each field is in its range
pub good_read : (ks : List Kind) (at : ℕ) (bs : List ℕ) → bad_at ks at bs ≡ None → AreGood ks at bs
good_read [] at bs none = tt
good_read (k ∷ ks) at bs none =
    let test = guarded (is_good k (field_at k at bs)) (bad_at ks (at + width k) bs) at none in
    (test.0, good_read ks (at + width k) bs test.1)

-- fields that were read are in their ranges, and are written so
pub values_read : (ks : List Kind) (at : ℕ) (bs : List ℕ) → IsBytes bs → at + total_width ks ≡ length bs → bad_at ks at bs ≡ None
    → (spelled_fields ks (values_at ks at bs) ≡ drop at bs) × (are_in_range ks (values_at ks at bs) ≡ true)
values_read [] at bs fits len none = (sym (drop_all at bs (omega arith)), refl)
values_read (k ∷ ks) at bs fits len none =
    let field = field_at k at bs in
    let test = guarded (is_good k (field_at k at bs)) (bad_at ks (at + width k) bs) at none in
    let width_is : length (field_at k at bs) ≡ width k = omega (arith, length-take (width k) (drop at bs), length-drop at bs) in
    let bytes_are : IsBytes (field_at k at bs) = IsBytes-take (width k) (drop at bs) (IsBytes-drop at bs fits) in
    let rest = values_read ks (at + width k) bs fits (omega arith) test.1 in
    let whole : field_at k at bs ++ drop (at + width k) bs ≡ drop at bs = rw (← drop-drop (width k) at bs) (take-append-drop (width k) (drop at bs)) in (
      rw (read_spelled k (field_at k at bs) bytes_are width_is, rest.0) whole,
      and_from (is_in_range k (value_of k (field_at k at bs))) (are_in_range ks (values_at ks (at + width k) bs)) (read_in_range k (field_at k at bs) bytes_are width_is test.0) rest.1,
    )

-- ---- whole messages

same_wires : (v w : Wire) → v.letter ≡ w.letter → v.kinds ≡ w.kinds → v.values ≡ w.values → v ≡ w
same_wires v w letter kinds values =
    let by_letter : ℕ → Wire = λ l. record { letter = l; kinds = v.kinds; values = v.values } in
    let by_kinds : List Kind → Wire = λ ks. record { letter = w.letter; kinds = ks; values = v.values } in
    let by_values : List FieldValue → Wire = λ vs. record { letter = w.letter; kinds = w.kinds; values = vs } in
    ap by_letter letter ∙ ap by_kinds kinds ∙ ap by_values values

head_and_rest : (n : ℕ) (bs : List ℕ) → length bs ≡ 1 + n → get_or bs 0 0 ∷ drop 1 bs ≡ bs
head_and_rest n [] e = absurd (omega arith)
head_and_rest n (b ∷ bs) e = refl

-- bytes of the length of a type, with no bad field, spell a message
pub message_read : (ks : List Kind) (bs : List ℕ) → IsBytes bs → length bs ≡ 1 + total_width ks → bad_at ks 1 bs ≡ None → IsSpelled bs (wire_at ks bs)
message_read ks bs fits len none =
    let fields = values_read ks 1 bs fits (omega arith) none in
    record { same = sym (rw fields.0 (head_and_rest (total_width ks) bs len)); in_range = fields.1 }

-- These are the bytes of the message with these fields.
pub record IsMessageAgain (ks : List Kind) (bs : List ℕ) (w : Wire) : Type 0 where
  pub len : length bs ≡ 1 + total_width ks
  pub good : bad_at ks 1 bs ≡ None
  pub same : w ≡ wire_at ks bs

-- a message that was written is read again
pub message_again : (ks : List Kind) (bs : List ℕ) (w : Wire) → w.kinds ≡ ks → IsSpelled bs w → IsMessageAgain ks bs w
message_again ks bs w kinds is =
    let rest : drop 1 bs ≡ spelled_fields w.kinds w.values = rw is.same refl in
    let again : AreReadAgain ks w.values 1 bs = rw (← kinds) (values_again w.kinds w.values 1 bs rest is.in_range) in
    let letter : w.letter ≡ get_or bs 0 0 = rw is.same refl in
    let long : 1 ≤ length bs = rw is.same (omega arith) in
    record {
      len = omega (arith, again.len, length-drop 1 bs);
      good = again.good;
      same = same_wires w (wire_at ks bs) letter kinds (sym again.values);
    }
