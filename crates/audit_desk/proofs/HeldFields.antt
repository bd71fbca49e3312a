-- Values as their fields hold them: they are spelled as before, and each number fits.
use Rattle.std.proofs.Common.{◌≡◌, ◌∙◌, ℕ, zero, suc, ◌+◌, ◌*◌, ◌/◌, ◌%◌, ◌^◌, ◌<◌, Bool, true, false, ◌&&◌, ◌||◌, List, [], ◌∷◌, ◌++◌, refl, sym, ap, arith}
use Rattle.std.proofs.Math.Nat.{add-mul-div_left, add-mul-mod_self_left, mod-add-div, mod-eq_of_lt, mod-lt, mul_assoc, pow-suc}
use Rattle.std.proofs.lemmas.Bool.{and_from, and_parts, ltb-true}
use Rattle.wire_fields.specs.declared.kind.Kind.{Kind}
use Rattle.wire_fields.specs.declared.kind.Kind.TheVariants.{Number}
use Rattle.wire_fields.specs.Kinds.{width}
use Rattle.wire_fields.specs.Numbers.{number_bytes}
use Rattle.wire_fields.specs.Values.{FieldValue, bytes, is_in_range, number, spelled}
use Rattle.wire_fields.specs.Wire.{IsInRange, Wire, are_in_range, spelled_fields, spelling}
use Rattle.market_laws.specs.Texts.{HasTexts, is_number, texts_in_range}
use Rattle.market_laws.proofs.Texts.{number-in}

-- ---- a number's last bytes

powers : (n : ℕ) → 0 < 256 ^ n
powers zero = omega arith
powers (suc n) = omega (arith, pow-suc 256 n, powers n)

-- what stands before the last bytes doesn't show in them
bytes-above : (w n above : ℕ) → number_bytes w (n + 256 ^ w * above) ≡ number_bytes w n
bytes-above zero n above = refl
bytes-above (suc w) n above =
    let shift : n + 256 ^ suc w * above ≡ n + 256 ^ w * (256 * above) = rw pow-suc (ap (λ (k : ℕ). n + k) (mul_assoc (256 ^ w) 256 above)) in
    let head : (n + 256 ^ w * (256 * above)) / 256 ^ w % 256 ≡ n / 256 ^ w % 256 = rw (add-mul-div_left n (256 * above) (powers w)) (add-mul-mod_self_left (n / 256 ^ w) 256 above) in
    rw (shift, head, bytes-above w n (256 * above)) refl

pub number-held : (w n : ℕ) → number_bytes w (n % 256 ^ w) ≡ number_bytes w n
number-held w n =
    let whole : n % 256 ^ w + 256 ^ w * (n / 256 ^ w) ≡ n = mod-add-div n (256 ^ w) in
    sym (bytes-above w (n % 256 ^ w) (n / 256 ^ w)) ∙ ap (λ (k : ℕ). number_bytes w k) whole

pub number-below : (w n : ℕ) → n % 256 ^ w < 256 ^ w
number-below w n = mod-lt n (powers w)

pub number-fits : (w n : ℕ) → is_in_range (Number w) (number (n % 256 ^ w)) ≡ true
number-fits w n = number-in w (n % 256 ^ w) (number-below w n)

-- ---- fields

-- a value as its field holds it
abbrev pub held_value : Kind → FieldValue → FieldValue
held_value k (number n) = number (n % 256 ^ width k)
held_value k (bytes bs) = bytes bs

abbrev pub held_values : List Kind → List FieldValue → List FieldValue
held_values [] vs = vs
held_values (k ∷ ks) [] = []
held_values (k ∷ ks) (v ∷ vs) = held_value k v ∷ held_values ks vs

-- a message whose values are so
abbrev pub held_wire : Wire → Wire
held_wire w = record { letter = w.letter; kinds = w.kinds; values = held_values w.kinds w.values }

value-spelled : (k : Kind) (v : FieldValue) → spelled k (held_value k v) ≡ spelled k v
value-spelled k (number n) = number-held (width k) n
value-spelled k (bytes bs) = refl

-- they are spelled as before
pub fields-spelled : (ks : List Kind) (vs : List FieldValue) → spelled_fields ks (held_values ks vs) ≡ spelled_fields ks vs
fields-spelled [] vs = refl
fields-spelled (k ∷ ks) [] = refl
fields-spelled (k ∷ ks) (v ∷ vs) =
    ap (λ (l : List ℕ). l ++ spelled_fields ks (held_values ks vs)) (value-spelled k v)
    ∙ ap (λ (l : List ℕ). spelled k v ++ l) (fields-spelled ks vs)

pub wire-spelled : (w : Wire) → spelling (held_wire w) ≡ spelling w
wire-spelled w = ap (λ (l : List ℕ). w.letter ∷ l) (fields-spelled w.kinds w.values)

-- a field of numbers has a number
abbrev pub stands : Kind → FieldValue → Bool
stands (Number w) (number n) = true
stands (Number w) (bytes bs) = false
stands k v = true

abbrev pub stand_all : List Kind → List FieldValue → Bool
stand_all [] vs = true
stand_all (k ∷ ks) [] = true
stand_all (k ∷ ks) (v ∷ vs) = stands k v && stand_all ks vs

value-fits : (k : Kind) (v : FieldValue) → stands k v ≡ true → (is_number k || is_in_range k v) ≡ true → is_in_range k (held_value k v) ≡ true
unfolding is_in_range
value-fits (Number w) (number n) s h = number-fits w n
value-fits (Number w) (bytes bs) s h = absurd (cc s)
value-fits k (number n) s h = absurd (cc h)
value-fits k (bytes bs) s h = h

-- each is in its range where each text is
pub fields-fit : (ks : List Kind) (vs : List FieldValue) → stand_all ks vs ≡ true → texts_in_range ks vs ≡ true → are_in_range ks (held_values ks vs) ≡ true
fields-fit [] [] s h = refl
fields-fit [] (v ∷ vs) s h = h
fields-fit (k ∷ ks) [] s h = h
fields-fit (k ∷ ks) (v ∷ vs) s h =
    let numbers = and_parts (stands k v) (stand_all ks vs) s in
    let texts = and_parts (is_number k || is_in_range k v) (texts_in_range ks vs) h in
    and_from (is_in_range k (held_value k v)) (are_in_range ks (held_values ks vs)) (value-fits k v numbers.0 texts.0) (fields-fit ks vs numbers.1 texts.1)

pub wire-fits : (w : Wire) → stand_all w.kinds w.values ≡ true → HasTexts w → IsInRange (held_wire w)
wire-fits w s h = fields-fit w.kinds w.values s h

-- ---- values that fit stay

value-kept : (k : Kind) (v : FieldValue) → is_in_range k v ≡ true → held_value k v ≡ v
unfolding is_in_range
value-kept (Number w) (number n) h = ap number (mod-eq_of_lt (ltb-true n (256 ^ w) h))
value-kept k (number n) h = absurd (cc h)
value-kept k (bytes bs) h = refl

pub fields-kept : (ks : List Kind) (vs : List FieldValue) → are_in_range ks vs ≡ true → held_values ks vs ≡ vs
fields-kept [] vs h = refl
fields-kept (k ∷ ks) [] h = refl
fields-kept (k ∷ ks) (v ∷ vs) h =
    let parts = and_parts (is_in_range k v) (are_in_range ks vs) h in
    ap (λ (x : FieldValue). x ∷ held_values ks vs) (value-kept k v parts.0) ∙ ap (λ (xs : List FieldValue). v ∷ xs) (fields-kept ks vs parts.1)

pub wire-kept : (w : Wire) → IsInRange w → held_wire w ≡ w
wire-kept w h =
    let with_values : List FieldValue → Wire = λ vs. record { letter = w.letter; kinds = w.kinds; values = vs } in
    ap with_values (fields-kept w.kinds w.values h)
