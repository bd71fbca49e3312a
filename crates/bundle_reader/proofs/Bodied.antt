-- Bytes that are a body behind the letter of its kind.
use Rattle.std.proofs.Common.{◌≡◌, ◌≢◌, ℕ, ◌-◌, List, [], ◌∷◌, length, drop, take, slice_get, Option, Some, None, Result, Ok, Err, refl, sym, ap, ◌∙◌, arith}
use Rattle.std.proofs.lemmas.List.{length-drop, nil_from_length, take_rest}
use Rattle.market_types.specs.declared.error.CodecError.{CodecError}
use Rattle.market_types.specs.declared.order.Inbound.{Inbound}
use Rattle.market_types.specs.declared.reply.Reply.{Reply}
use Rattle.market_types.specs.declared.message.Body.{Body}
use Rattle.market_types.specs.declared.message.Body.TheVariants as body
use Rattle.wire_fields.specs.Wire.{IsSpelled}
use Rattle.ouch_codec.specs.Inbound.{inbound_wire}
use Rattle.ouch_codec.specs.Outbound.{reply_wire}
use Rattle.bundle_frames.specs.Wires.{letter_of_body}
use Rattle.bundle_reader.specs.declared.market_body.MarketBody.{MarketBody}
use Rattle.bundle_reader.specs.declared.market_body.MarketBody.TheVariants.{Ask, Quote}
use Rattle.bundle_reader.specs.Bodies.{market_wire, IsBody}

same_some : {A : Type 0} (a b : A) → Some a ≡ Some b → a ≡ b
same_some a b e = cc

-- the letter that stands first is the kind's
letter_is : (bytes : List ℕ) (b : Body) (letter : ℕ) → slice_get bytes 0 ≡ Some letter → IsBody bytes b → letter ≡ letter_of_body b
letter_is bytes b letter at is = same_some letter (letter_of_body b) (sym at ∙ ap (λ p. slice_get p 0) is.same)

-- bytes with a first letter are it and the rest
no_first : (o : Option ℕ) (letter : ℕ) → o ≡ None → o ≡ Some letter → ⊥
no_first o letter none some = cc

behind_letter : (bytes : List ℕ) (letter : ℕ) → slice_get bytes 0 ≡ Some letter → bytes ≡ letter ∷ drop 1 bytes
behind_letter [] letter at = absurd (no_first None letter refl at)
behind_letter (x ∷ bytes) letter at = ap (λ n. n ∷ bytes) (same_some x letter at)

-- the bytes behind the letter, as the code cuts them
abbrev rest_of : List ℕ → List ℕ
rest_of bytes = take (length bytes - 1) (drop 1 bytes)

same_rest : (bytes : List ℕ) (letter : ℕ) (rest : List ℕ) → bytes ≡ letter ∷ rest → rest_of bytes ≡ rest
same_rest bytes letter rest same = take_rest bytes 1 ∙ ap (drop 1) same

made_of : (bytes : List ℕ) (letter : ℕ) (rest : List ℕ) → slice_get bytes 0 ≡ Some letter → rest_of bytes ≡ rest → bytes ≡ letter ∷ rest
made_of bytes letter rest at same = behind_letter bytes letter at ∙ ap (λ (l : List ℕ). letter ∷ l) (sym (take_rest bytes 1) ∙ same)

-- a wakeup is its letter alone
pub wakeup_made : (bytes : List ℕ) → slice_get bytes 0 ≡ Some 119 → length bytes ≡ 1 → IsBody bytes body.Wake
wakeup_made bytes at one = record {
  same = behind_letter bytes 119 at ∙ ap (λ (l : List ℕ). 119 ∷ l) (nil_from_length (drop 1 bytes) (omega (arith, length-drop 1 bytes)));
  in_range = tt;
}

-- what is read, and read once more
same_ok : {M : Type 0} (r : Result M CodecError) (x m : M) → r ≡ Ok x → r ≡ Ok m → x ≡ m
same_ok r x m is read = cc

not_both : {M : Type 0} (r : Result M CodecError) (m : M) (e : CodecError) → r ≡ Err e → r ≡ Ok m → ⊥
not_both r m e is read = cc

-- a body whose letter is an order's
pub order_made : (bytes : List ℕ) (m : Inbound) → slice_get bytes 0 ≡ Some 105 → IsSpelled (rest_of bytes) (inbound_wire m) → IsBody bytes (body.Order m)
order_made bytes m at spelled = record { same = made_of bytes 105 _ at spelled.same; in_range = spelled.in_range }

order_is : (bytes : List ℕ) (b : Body) (r : Result Inbound CodecError) → slice_get bytes 0 ≡ Some 105 → ((m : Inbound) → IsSpelled (rest_of bytes) (inbound_wire m) → r ≡ Ok m)
    → IsBody bytes b → (m : Inbound) × (b ≡ body.Order m) × (r ≡ Ok m)
order_is bytes body.Wake r at only is = absurd (omega (arith, letter_is bytes body.Wake 105 at is))
order_is bytes (body.Order m) r at only is = (m, refl, only m (record { same = same_rest bytes 105 _ is.same; in_range = is.in_range }))
order_is bytes (body.Answer m) r at only is = absurd (omega (arith, letter_is bytes (body.Answer m) 105 at is))
order_is bytes (body.Ask m) r at only is = absurd (omega (arith, letter_is bytes (body.Ask m) 105 at is))
order_is bytes (body.Quote m) r at only is = absurd (omega (arith, letter_is bytes (body.Quote m) 105 at is))

pub order_read : (bytes : List ℕ) (b : Body) (r : Result Inbound CodecError) (x : Inbound) → slice_get bytes 0 ≡ Some 105
    → ((m : Inbound) → IsSpelled (rest_of bytes) (inbound_wire m) → r ≡ Ok m) → IsBody bytes b → r ≡ Ok x → Some (body.Order x) ≡ Some b
order_read bytes b r x at only is read =
    let m = order_is bytes b r at only is in
    ap (λ (k : Inbound). Some (body.Order k)) (same_ok r x m.0 read m.2) ∙ ap (λ (k : Body). Some k) (sym m.1)

pub order_refused : (bytes : List ℕ) (b : Body) (r : Result Inbound CodecError) (e : CodecError) → slice_get bytes 0 ≡ Some 105
    → ((m : Inbound) → IsSpelled (rest_of bytes) (inbound_wire m) → r ≡ Ok m) → IsBody bytes b → r ≡ Err e → ⊥
order_refused bytes b r e at only is refused =
    let m = order_is bytes b r at only is in not_both r m.0 e refused m.2

-- a body whose letter is an answer's
pub answer_made : (bytes : List ℕ) (m : Reply) → slice_get bytes 0 ≡ Some 111 → IsSpelled (rest_of bytes) (reply_wire m) → IsBody bytes (body.Answer m)
answer_made bytes m at spelled = record { same = made_of bytes 111 _ at spelled.same; in_range = spelled.in_range }

answer_is : (bytes : List ℕ) (b : Body) (r : Result Reply CodecError) → slice_get bytes 0 ≡ Some 111 → ((m : Reply) → IsSpelled (rest_of bytes) (reply_wire m) → r ≡ Ok m)
    → IsBody bytes b → (m : Reply) × (b ≡ body.Answer m) × (r ≡ Ok m)
answer_is bytes body.Wake r at only is = absurd (omega (arith, letter_is bytes body.Wake 111 at is))
answer_is bytes (body.Order m) r at only is = absurd (omega (arith, letter_is bytes (body.Order m) 111 at is))
answer_is bytes (body.Answer m) r at only is = (m, refl, only m (record { same = same_rest bytes 111 _ is.same; in_range = is.in_range }))
answer_is bytes (body.Ask m) r at only is = absurd (omega (arith, letter_is bytes (body.Ask m) 111 at is))
answer_is bytes (body.Quote m) r at only is = absurd (omega (arith, letter_is bytes (body.Quote m) 111 at is))

pub answer_read : (bytes : List ℕ) (b : Body) (r : Result Reply CodecError) (x : Reply) → slice_get bytes 0 ≡ Some 111
    → ((m : Reply) → IsSpelled (rest_of bytes) (reply_wire m) → r ≡ Ok m) → IsBody bytes b → r ≡ Ok x → Some (body.Answer x) ≡ Some b
answer_read bytes b r x at only is read =
    let m = answer_is bytes b r at only is in
    ap (λ (k : Reply). Some (body.Answer k)) (same_ok r x m.0 read m.2) ∙ ap (λ (k : Body). Some k) (sym m.1)

pub answer_refused : (bytes : List ℕ) (b : Body) (r : Result Reply CodecError) (e : CodecError) → slice_get bytes 0 ≡ Some 111
    → ((m : Reply) → IsSpelled (rest_of bytes) (reply_wire m) → r ≡ Ok m) → IsBody bytes b → r ≡ Err e → ⊥
answer_refused bytes b r e at only is refused =
    let m = answer_is bytes b r at only is in not_both r m.0 e refused m.2

-- the body of a question or a quote
abbrev pub body_of : MarketBody → Body
body_of (Ask stock) = body.Ask stock
body_of (Quote quote) = body.Quote quote

-- a body with another letter is a question or a quote
pub market_is : (bytes : List ℕ) (b : Body) (r : Result MarketBody CodecError) → slice_get bytes 0 ≢ Some 119 → slice_get bytes 0 ≢ Some 105 → slice_get bytes 0 ≢ Some 111
    → ((m : MarketBody) → IsSpelled bytes (market_wire m) → r ≡ Ok m) → IsBody bytes b → (m : MarketBody) × (b ≡ body_of m) × (r ≡ Ok m)
market_is bytes body.Wake r no_wakeup no_order no_answer only is = absurd (no_wakeup (ap (λ p. slice_get p 0) is.same))
market_is bytes (body.Order m) r no_wakeup no_order no_answer only is = absurd (no_order (ap (λ p. slice_get p 0) is.same))
market_is bytes (body.Answer m) r no_wakeup no_order no_answer only is = absurd (no_answer (ap (λ p. slice_get p 0) is.same))
market_is bytes (body.Ask m) r no_wakeup no_order no_answer only is = (Ask m, refl, only (Ask m) (record { same = is.same; in_range = is.in_range }))
market_is bytes (body.Quote m) r no_wakeup no_order no_answer only is = (Quote m, refl, only (Quote m) (record { same = is.same; in_range = is.in_range }))

same_read : (r : Result MarketBody CodecError) (x y m : MarketBody) → r ≡ Ok x → x ≡ y → r ≡ Ok m → y ≡ m
same_read r x y m is same read = cc

-- what was read is the body, and what was refused is none
pub market_read : (bytes : List ℕ) (b : Body) (r : Result MarketBody CodecError) (x y : MarketBody) → slice_get bytes 0 ≢ Some 119 → slice_get bytes 0 ≢ Some 105 → slice_get bytes 0 ≢ Some 111
    → ((m : MarketBody) → IsSpelled bytes (market_wire m) → r ≡ Ok m) → IsBody bytes b → r ≡ Ok x → x ≡ y → Some (body_of y) ≡ Some b
market_read bytes b r x y no_wakeup no_order no_answer only is read same =
    let m = market_is bytes b r no_wakeup no_order no_answer only is in
    ap (λ (k : MarketBody). Some (body_of k)) (same_read r x y m.0 read same m.2) ∙ ap (λ (k : Body). Some k) (sym m.1)

pub market_refused : (bytes : List ℕ) (b : Body) (r : Result MarketBody CodecError) (e : CodecError) → slice_get bytes 0 ≢ Some 119 → slice_get bytes 0 ≢ Some 105 → slice_get bytes 0 ≢ Some 111
    → ((m : MarketBody) → IsSpelled bytes (market_wire m) → r ≡ Ok m) → IsBody bytes b → r ≡ Err e → ⊥
market_refused bytes b r e no_wakeup no_order no_answer only is refused =
    let m = market_is bytes b r no_wakeup no_order no_answer only is in not_both r m.0 e refused m.2
