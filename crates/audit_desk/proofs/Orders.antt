-- An order that bytes spell has its texts in their ranges.
use Rattle.std.proofs.Common.{◌≡◌, ℕ, ◌+◌, Bool, true, false, List, [], ◌∷◌, length, Option, Some, None, IfSome, Ok, Err, refl, sym, arith}
use Rattle.std.specs.Prelude.{◌==◌, if◌then◌else◌, is_none, option_map, slice_index, unwrap_or, Result}
use Rattle.std.proofs.lemmas.Bool.{and_parts, eqb-true}
use Rattle.hex.specs.Hex.{decode_of}
use Rattle.hex.specs.declared.error.FromHexError.{FromHexError}
use Rattle.hex.proofs.HexLemmas.{decode_of-ok}
use Rattle.market_types.specs.declared.error.CodecError.{CodecError}
use Rattle.market_types.specs.declared.error.CodecError.TheVariants.{BadField, WrongLength}
use Rattle.market_types.specs.declared.order.Inbound.{Inbound}
use Rattle.market_types.specs.declared.order.Inbound.TheVariants as inbound
use Rattle.wire_fields.specs.declared.kind.Kind.{Kind}
use Rattle.wire_fields.specs.declared.kind.Kind.TheVariants.{Letters}
use Rattle.wire_fields.specs.Back.{side_in}
use Rattle.wire_fields.specs.Values.{FieldValue, bytes, is_in_range}
use Rattle.wire_fields.specs.Wire.{are_in_range, bad_at, fault, fault_of, refusal, total_width, values_at, wire_at}
use Rattle.wire_fields.proofs.Digits.{IsBytes}
use Rattle.wire_fields.proofs.Spelled.{value_again, values_read}
use Rattle.ouch_codec.specs.Inbound.{inbound_layout, inbound_wire}
use Rattle.ouch_codec.specs.InboundBack.{cancel_in, enter_on, inbound_of}
use Rattle.ouch_codec.specs.Layouts.{cancel_kinds, enter_kinds}
use Rattle.study_rules.specs.EditRules.{message_in, order_in}
use Rattle.market_laws.specs.Texts.{HasTexts}
use Rattle.market_laws.proofs.Spellings.{IsLetter, cancel-texts, enter-texts}
use Rattle.market_laws.proofs.Texts.{Each}

each-in : (ks : List Kind) (vs : List FieldValue) → are_in_range ks vs ≡ true → Each ks vs
each-in [] [] h = tt
each-in [] (v ∷ vs) h = absurd (cc h)
each-in (k ∷ ks) [] h = absurd (cc h)
each-in (k ∷ ks) (v ∷ vs) h =
    let parts = and_parts (is_in_range k v) (are_in_range ks vs) h in
    (parts.0, each-in ks vs parts.1)

-- a letter's field has one byte
only-letter : (bs : List ℕ) → length bs ≡ 1 → is_in_range (Letters 1) (bytes bs) ≡ true → IsLetter (slice_index bs 0)
only-letter [] long h = absurd (omega (arith, long))
only-letter (b ∷ []) long h = h
only-letter (b ∷ c ∷ bs) long h = absurd (omega (arith, long))

letter-of : (bs : List ℕ) → is_in_range (Letters 1) (bytes bs) ≡ true → IsLetter (slice_index bs 0)
letter-of bs h = only-letter bs (value_again (Letters 1) (bytes bs) h).len h

-- ---- bytes that are refused for nothing

length-or : (b : Bool) (o : Option CodecError) (e : CodecError) → (if b then o else Some e) ≡ None → (b ≡ true) × (o ≡ None)
length-or true o e h = (refl, h)
length-or false o e h = absurd (cc h)

no-field : (o : Option ℕ) → option_map BadField o ≡ None → o ≡ None
no-field None h = refl
no-field (Some at) h = absurd (cc h)

-- the fields of a type that has no fault are in their ranges
faultless : (ks : List Kind) (bs : List ℕ) → IsBytes bs → fault ks bs ≡ None → are_in_range ks (values_at ks 1 bs) ≡ true
unfolding fault
faultless ks bs fits h =
    let parts = length-or (length bs == 1 + total_width ks) (option_map BadField (bad_at ks 1 bs)) (WrongLength (length bs) (1 + total_width ks)) h in
    let long : length bs ≡ 1 + total_width ks = eqb-true (length bs) (1 + total_width ks) parts.0 in
    (values_read ks 1 bs fits (sym long) (no-field (bad_at ks 1 bs) parts.1)).1

enter-spelled : (bs : List ℕ) → IsBytes bs → fault enter_kinds bs ≡ None
    → HasTexts (inbound_wire (inbound.Enter (enter_on (values_at enter_kinds 1 bs) (side_in (values_at enter_kinds 1 bs) 1))))
enter-spelled bs fits h =
    let vs = values_at enter_kinds 1 bs in
    let e = each-in enter_kinds vs (faultless enter_kinds bs fits h) in
    enter-texts (enter_on vs (side_in vs 1)) (record {
      token = e.0;
      stock = e.1.1.1.0;
      firm = e.1.1.1.1.1.1.0;
      display = letter-of _ e.1.1.1.1.1.1.1.0;
      capacity = letter-of _ e.1.1.1.1.1.1.1.1.0;
      sweep = letter-of _ e.1.1.1.1.1.1.1.1.1.0;
      cross = letter-of _ e.1.1.1.1.1.1.1.1.1.1.1.0;
      customer = letter-of _ e.1.1.1.1.1.1.1.1.1.1.1.1.0;
    })

cancel-spelled : (bs : List ℕ) → IsBytes bs → fault cancel_kinds bs ≡ None → HasTexts (inbound_wire (inbound.Cancel (cancel_in (values_at cancel_kinds 1 bs))))
cancel-spelled bs fits h =
    let vs = values_at cancel_kinds 1 bs in
    let e = each-in cancel_kinds vs (faultless cancel_kinds bs fits h) in
    cancel-texts (cancel_in vs).token (cancel_in vs).shares e.0

-- ---- by the type's letter, `O` or `X`

abbrev kinds-by : Bool → Bool → Option (List Kind)
kinds-by a b = if a then Some enter_kinds else (if b then Some cancel_kinds else None)

abbrev order-by : Bool → List FieldValue → Inbound
order-by a vs = if a then inbound.Enter (enter_on vs (side_in vs 1)) else inbound.Cancel (cancel_in vs)

by-spelled : (a b : Bool) (letter : ℕ) (bs : List ℕ) → IsBytes bs → fault_of letter (kinds-by a b) bs ≡ None
    → HasTexts (inbound_wire (order-by a (values_at (unwrap_or (kinds-by a b) []) 1 bs)))
by-spelled true b letter bs fits h = enter-spelled bs fits h
by-spelled false true letter bs fits h = cancel-spelled bs fits h
by-spelled false false letter bs fits h = absurd (cc h)

abbrev order-at : List ℕ → Inbound
order-at bs = inbound_of (wire_at (unwrap_or (inbound_layout (slice_index bs 0)) []) bs)

spelled : (bs : List ℕ) → IsBytes bs → refusal inbound_layout bs ≡ None → HasTexts (inbound_wire (order-at bs))
spelled [] fits h = absurd (cc h)
spelled (letter ∷ rest) fits h = by-spelled (letter == 79) (letter == 88) letter (letter ∷ rest) fits h

none-is : {A : Type 0} (o : Option A) → is_none o ≡ true → o ≡ None
none-is None h = refl
none-is (Some x) h = absurd (cc h)

abbrev IsSpelledOrder : Inbound → Type 0
IsSpelledOrder m = HasTexts (inbound_wire m)

if-some : (b : Bool) (m : Inbound) → (b ≡ true → IsSpelledOrder m) → IfSome (if b then Some m else None) IsSpelledOrder
if-some true m h = h refl
if-some false m h = tt

order-spelled : (bs : List ℕ) → IsBytes bs → IfSome (order_in bs) IsSpelledOrder
order-spelled bs fits = if-some (is_none (refusal inbound_layout bs)) (order-at bs) (λ h. spelled bs fits (none-is (refusal inbound_layout bs) h))

abbrev decoded : Result (List ℕ) FromHexError → Option Inbound
decoded d = elim d [ Ok bs ↦ order_in bs | Err e ↦ None ]

-- the order of a text of hexadecimal digits
pub message-spelled : (text : List ℕ) → IfSome (message_in text) (λ (m : Inbound). HasTexts (inbound_wire m))
message-spelled text =
    elim (decode_of text) as (λ d. decode_of text ≡ d → IfSome (decoded d) IsSpelledOrder) [
      | Ok bs ↦ λ is. order-spelled bs (decode_of-ok text bs is).3
      | Err e ↦ λ is. tt
    ] refl
