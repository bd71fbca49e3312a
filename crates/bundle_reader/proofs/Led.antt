-- A payload that begins with a head.
use Rattle.std.proofs.Common.{◌≡◌, ◌∙◌, ℕ, ◌+◌, ◌-◌, List, ◌++◌, length, take, drop, slice_get, Option, Some, None, Result, Ok, Err, IfOk, refl, sym, ap, subst, arith}
use Rattle.std.proofs.lemmas.List.{length-append, length-drop, take_at, drop_at, take_all, take-append-drop}
use Rattle.market_types.specs.declared.error.CodecError.{CodecError}
use Rattle.wire_fields.specs.declared.kind.Kind.{Kind}
use Rattle.wire_fields.specs.Wire.{IsRead, IsSpelled, spelling, total_width}
use Rattle.wire_fields.proofs.Spelled.{message_again}
use Rattle.bundle_reader.specs.declared.head.Head.{Head}
use Rattle.bundle_reader.specs.Heads.{head_wire, head_layout, IsLed}
use Rattle.bundle_reader.specs.Back.{head_told}

-- how many bytes a head has
abbrev pub size_of : Head → ℕ
size_of h = 1 + total_width (head_wire h).kinds

-- The letter of the head stands first; its bytes and the rest are apart.
pub record IsCutAt (payload : List ℕ) (h : Head) (rest : List ℕ) : Type 0 where
  pub first : slice_get payload 0 ≡ Some (head_wire h).letter
  pub size : length payload ≡ size_of h + length rest
  pub head : take (size_of h) payload ≡ spelling (head_wire h)
  pub after : drop (size_of h) payload ≡ rest

pub cut_at : (payload : List ℕ) (h : Head) (rest : List ℕ) → IsLed payload h rest → IsCutAt payload h rest
cut_at payload h rest led =
    let w = head_wire h in
    let spelled : IsSpelled (spelling w) w = record { same = refl; in_range = led.in_range } in
    let len : length (spelling w) ≡ size_of h = (message_again w.kinds (spelling w) w refl spelled).len in
    record {
      first = ap (λ p. slice_get p 0) led.same;
      size = ap length led.same ∙ length-append (spelling w) rest ∙ ap (λ n. n + length rest) len;
      head = ap (take (size_of h)) led.same ∙ take_at (spelling w) rest (size_of h) len;
      after = ap (drop (size_of h)) led.same ∙ drop_at (spelling w) rest (size_of h) len;
    }

pub some_same : {A : Type 0} (a b : A) → Some a ≡ Some b → a ≡ b
some_same a b e = cc

none_some : {A : Type 0} (a : A) → ◌≡◌ {A = Option A} None (Some a) → ⊥
none_some a e = cc

-- a payload that begins with a head isn't empty
pub has_first : (payload : List ℕ) (h : Head) (rest : List ℕ) → slice_get payload 0 ≡ None → IsLed payload h rest → ⊥
has_first payload h rest empty led = none_some _ (sym empty ∙ (cut_at payload h rest led).first)

-- the letter of a head is that of a type
pub has_type : (payload : List ℕ) (h : Head) (rest : List ℕ) (first : ℕ) → slice_get payload 0 ≡ Some first → None ≡ head_layout first → IsLed payload h rest → ⊥
has_type payload h rest first is unknown led =
    let letter = some_same first (head_wire h).letter (sym is ∙ (cut_at payload h rest led).first) in
    none_some _ (unknown ∙ ap head_layout letter ∙ head_told h)

-- the type of that letter has the head's fields
pub same_type : (payload : List ℕ) (h : Head) (rest : List ℕ) (first : ℕ) (kinds : List Kind) → slice_get payload 0 ≡ Some first → Some kinds ≡ head_layout first → IsLed payload h rest
    → kinds ≡ (head_wire h).kinds
same_type payload h rest first kinds is known led =
    let letter = some_same first (head_wire h).letter (sym is ∙ (cut_at payload h rest led).first) in
    some_same kinds (head_wire h).kinds (known ∙ ap head_layout letter ∙ head_told h)

-- the same by the type of the letter that stands first
pub record IsCutHere (payload : List ℕ) (h : Head) (rest : List ℕ) (size : ℕ) : Type 0 where
  pub whole : length payload ≡ size + length rest
  pub head : take size payload ≡ spelling (head_wire h)
  pub after : drop size payload ≡ rest

pub cut_here : (payload : List ℕ) (h : Head) (rest : List ℕ) (first : ℕ) (kinds : List Kind) (size : ℕ) → Some first ≡ slice_get payload 0 → Some kinds ≡ head_layout first
    → size ≡ 1 + total_width kinds → IsLed payload h rest → IsCutHere payload h rest size
cut_here payload h rest first kinds size is known size_is led =
    let cut = cut_at payload h rest led in
    let all : size_of h ≡ size = ap (λ (ks : List Kind). 1 + total_width ks) (sym (same_type payload h rest first kinds (sym is) known led)) ∙ sym size_is in
    let P : ℕ → Type 0 = λ n. IsCutHere payload h rest n in
    subst P all (record { whole = cut.size; head = cut.head; after = cut.after })

-- what follows a size
abbrev pub rest_at : List ℕ → ℕ → List ℕ
rest_at payload size = take (length payload - size) (drop size payload)

rest_same : (payload : List ℕ) (size : ℕ) → rest_at payload size ≡ drop size payload
rest_same payload size = take_all (length payload - size) (drop size payload) (omega (arith, length-drop size payload))

spelled_if : (bytes : List ℕ) (r : Result Head CodecError) (h : Head) → r ≡ Ok h → IfOk r (λ m. IsSpelled bytes (head_wire m)) → IsSpelled bytes (head_wire h)
spelled_if bytes r h e is = let P : Result Head CodecError → Type 0 = λ k. IfOk k (λ m. IsSpelled bytes (head_wire m)) in subst P e is

ok_same : (r : Result Head CodecError) (h k : Head) → r ≡ Ok h → r ≡ Ok k → h ≡ k
ok_same r h k e f = cc

err_ok : (r : Result Head CodecError) (e : CodecError) (k : Head) → r ≡ Err e → r ≡ Ok k → ⊥
err_ok r e k is f = cc

-- a head that was read of a payload's first bytes leads it
pub led_by_read : (payload bytes : List ℕ) (size : ℕ) (r : Result Head CodecError) (h : Head) → IsRead head_wire head_layout bytes r → bytes ≡ take size payload → r ≡ Ok h
    → IsLed payload h (rest_at payload size)
led_by_read payload bytes size r h read part e =
    let is = spelled_if bytes r h e read.spelled in
    record {
      same = sym (take-append-drop size payload)
          ∙ ap (λ (l : List ℕ). l ++ drop size payload) (sym part ∙ is.same)
          ∙ ap (λ (l : List ℕ). spelling (head_wire h) ++ l) (sym (rest_same payload size));
      in_range = is.in_range;
    }

-- the head that leads a payload is read
pub read_by_led : (payload bytes : List ℕ) (h : Head) (rest : List ℕ) (size : ℕ) (r : Result Head CodecError) → IsRead head_wire head_layout bytes r → bytes ≡ take size payload
    → IsCutHere payload h rest size → IsLed payload h rest → r ≡ Ok h
read_by_led payload bytes h rest size r read part cut led = read.only h (record { same = part ∙ cut.head; in_range = led.in_range })

pub same_parts : (payload bytes : List ℕ) (h k : Head) (rest : List ℕ) (size : ℕ) (r : Result Head CodecError) → IsRead head_wire head_layout bytes r → bytes ≡ take size payload
    → IsCutHere payload h rest size → IsLed payload h rest → r ≡ Ok k → ◌≡◌ {A = Option (Head × List ℕ)} (Some (k, rest_at payload size)) (Some (h, rest))
same_parts payload bytes h k rest size r read part cut led e =
    let heads = ok_same r k h e (read_by_led payload bytes h rest size r read part cut led) in
    let rests = rest_same payload size ∙ cut.after in
    let at : Head → List ℕ → Option (Head × List ℕ) = λ x l. Some (x, l) in
    ap (λ (x : Head). at x (rest_at payload size)) heads ∙ ap (at h) rests

pub no_parts : (payload bytes : List ℕ) (h : Head) (rest : List ℕ) (size : ℕ) (r : Result Head CodecError) (e : CodecError) → IsRead head_wire head_layout bytes r → bytes ≡ take size payload
    → IsCutHere payload h rest size → IsLed payload h rest → r ≡ Err e → ⊥
no_parts payload bytes h rest size r e read part cut led is = err_ok r e h is (read_by_led payload bytes h rest size r read part cut led)
