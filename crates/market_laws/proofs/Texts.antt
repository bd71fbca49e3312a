-- Symbols may stand in a text field, and numbers in a field that is wide enough.
use Rattle.std.proofs.Common.{◌≡◌, ◌∙◌, ℕ, zero, suc, ◌-◌, ◌<◌, ◌≤◌, ◌^◌, ◌==◌, Bool, true, false, ◌&&◌, List, [], ◌∷◌, ◌++◌, length, drop, replicate, Ok, Err, refl, ap, sym, arith}
use Rattle.std.specs.Prelude.{nat_lt, if◌then◌else◌}
use Rattle.std.specs.Char.{is_ascii_graphic}
use Rattle.std.specs.Int.{is_in_range as is_between}
use Rattle.std.specs.List.{list_all, prefix_len}
use Rattle.std.proofs.lemmas.Bool.{and_from, and_parts, eq-eqb, lt-ltb}
use Rattle.std.proofs.lemmas.Bool.Decides.{nat_tests}
use Rattle.std.proofs.lemmas.List.{length-append, length-replicate}
use Rattle.std.proofs.lemmas.List.Folds.{list_all-append}
use Rattle.std.proofs.Math.Seq.{drop-append_seam}
use Rattle.market_types.specs.declared.error.TypeError.TheVariants.{BadSymbol}
use Rattle.market_types.specs.declared.order.Symbol.{Symbol}
use Rattle.market_types.specs.Readers.{is_symbol, padded}
use Rattle.market_floor.specs.Opening.{IsSymbol}
use Rattle.wire_fields.specs.declared.kind.Kind.{Kind}
use Rattle.wire_fields.specs.declared.kind.Kind.TheVariants.{Number, Text}
use Rattle.wire_fields.specs.Kinds.{is_filled, is_good}
use Rattle.wire_fields.specs.Values.{FieldValue, number, bytes, is_in_range}
use Rattle.wire_fields.specs.Wire.{are_in_range}

-- each field by itself
abbrev pub Each : List Kind → List FieldValue → Type 0
Each [] [] = Unit {0}
Each [] (v ∷ vs) = ⊥
Each (k ∷ ks) [] = ⊥
Each (k ∷ ks) (v ∷ vs) = (is_in_range k v ≡ true) × Each ks vs

pub all-in : (ks : List Kind) (vs : List FieldValue) → Each ks vs → are_in_range ks vs ≡ true
all-in [] [] h = refl
all-in [] (v ∷ vs) h = absurd h
all-in (k ∷ ks) [] h = absurd h
all-in (k ∷ ks) (v ∷ vs) h = and_from (is_in_range k v) (are_in_range ks vs) h.0 (all-in ks vs h.1)

pub number-in : (w n : ℕ) → n < 256 ^ w → is_in_range (Number w) (number n) ≡ true
unfolding is_in_range
number-in w n h = lt-ltb n (256 ^ w) h

-- ---- a symbol

below : (b : ℕ) → is_ascii_graphic b ≡ true → nat_lt b 256 ≡ true
below b h = grind (arith, nat_tests)

text-bytes : (text : List ℕ) → list_all is_ascii_graphic text ≡ true → list_all (λ b. nat_lt b 256) text ≡ true
text-bytes [] h = refl
text-bytes (b ∷ text) h =
    let parts = and_parts (is_ascii_graphic b) (list_all is_ascii_graphic text) h in
    and_from (nat_lt b 256) (list_all (λ x. nat_lt x 256) text) (below b parts.0) (text-bytes text parts.1)

spaces-bytes : (n : ℕ) → list_all (λ b. nat_lt b 256) (replicate n 32) ≡ true
spaces-bytes zero = refl
spaces-bytes (suc n) = spaces-bytes n

spaces : (n : ℕ) → list_all (λ b. b == 32) (replicate n 32) ≡ true
spaces zero = refl
spaces (suc n) = spaces n

no-prefix : (n : ℕ) → prefix_len is_ascii_graphic (replicate n 32) ≡ 0
no-prefix zero = refl
no-prefix (suc n) = refl

prefix-is : (text : List ℕ) (n : ℕ) → list_all is_ascii_graphic text ≡ true → prefix_len is_ascii_graphic (text ++ replicate n 32) ≡ length text
prefix-is [] n h = no-prefix n
prefix-is (b ∷ text) n h =
    let parts = and_parts (is_ascii_graphic b) (list_all is_ascii_graphic text) h in
    rw parts.0 (omega (arith, prefix-is text n parts.1))

filled : (text : List ℕ) (n : ℕ) → 1 ≤ length text → list_all is_ascii_graphic text ≡ true → is_filled is_ascii_graphic (text ++ replicate n 32) ≡ true
filled text n some h =
    let all = text ++ replicate n 32 in
    ap (λ k. nat_lt 0 k && list_all (λ b. b == 32) (drop k all)) (prefix-is text n h)
    ∙ and_from (nat_lt 0 (length text)) (list_all (λ b. b == 32) (drop (length text) all)) (lt-ltb 0 (length text) (omega (arith, some)))
    (ap (λ bs. list_all (λ b. b == 32) bs) (drop-append_seam text (replicate n 32)) ∙ spaces n)

text-good : (bs : List ℕ) → is_filled is_ascii_graphic bs ≡ true → is_good (Text 8) bs ≡ true
unfolding is_good
text-good bs h = h

text-in : (bs : List ℕ) → length bs ≡ 8 → is_good (Text 8) bs ≡ true → list_all (λ b. nat_lt b 256) bs ≡ true → is_in_range (Text 8) (bytes bs) ≡ true
unfolding is_in_range
text-in bs long good each =
    and_from (length bs == 8) (is_good (Text 8) bs && list_all (λ b. nat_lt b 256) bs) (eq-eqb (length bs) 8 long)
    (and_from (is_good (Text 8) bs) (list_all (λ b. nat_lt b 256) bs) good each)

-- what was read of a text
read-by : (b : Bool) (text : List ℕ) (symbol : Symbol) → (if b then Ok (record { 0 = padded 8 text }) else Err BadSymbol) ≡ Ok symbol → (b ≡ true) × (padded 8 text ≡ symbol.0)
read-by true text symbol h = (refl, ap (λ (s : Symbol). s.0) (first_of (grind arith, cc)))
read-by false text symbol h = absurd cc

between : (n : ℕ) → is_between 1 8 n ≡ true → (1 ≤ n) × (n ≤ 8)
between n h = (grind (arith, nat_tests), grind (arith, nat_tests))

padded-in : (text : List ℕ) → is_symbol text ≡ true → is_in_range (Text 8) (bytes (padded 8 text)) ≡ true
padded-in text h =
    let parts = and_parts (is_between 1 8 (length text)) (list_all is_ascii_graphic text) h in
    let size = between (length text) parts.0 in
    let fill = 8 - length text in
    let long : length (padded 8 text) ≡ 8 = omega (arith, length-append text (replicate fill 32), length-replicate {A = ℕ} fill 32, size.1) in
    let each : list_all (λ b. nat_lt b 256) (padded 8 text) ≡ true =
    list_all-append (λ b. nat_lt b 256) text (replicate fill 32)
    ∙ and_from (list_all (λ b. nat_lt b 256) text) (list_all (λ b. nat_lt b 256) (replicate fill 32)) (text-bytes text parts.1) (spaces-bytes fill) in
    text-in (padded 8 text) long (text-good (padded 8 text) (filled text fill size.0 parts.1)) each

-- the symbol of a stock may stand in a text field of eight bytes
pub symbol-in : (symbol : Symbol) → IsSymbol symbol → is_in_range (Text 8) (bytes symbol.0) ≡ true
symbol-in symbol h =
    let read = read-by (is_symbol h.text) h.text symbol h.read in
    ap (λ bs. is_in_range (Text 8) (bytes bs)) (sym read.1) ∙ padded-in h.text read.0

-- ---- numbers of two, four, six and eight bytes

pub two : (n : ℕ) → n < 65536 → is_in_range (Number 2) (number n) ≡ true
two n h = number-in 2 n h

pub four : (n : ℕ) → n < 4294967296 → is_in_range (Number 4) (number n) ≡ true
four n h = number-in 4 n h

pub six : (n : ℕ) → n < 281474976710656 → is_in_range (Number 6) (number n) ≡ true
six n h = number-in 6 n h

pub eight : (n : ℕ) → n < 18446744073709551616 → is_in_range (Number 8) (number n) ≡ true
eight n h = number-in 8 n h
