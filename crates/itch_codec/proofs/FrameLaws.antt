-- A framed payload is taken out of its frame again.
use Rattle.std.proofs.Common.{◌≡◌, ℕ, ◌+◌, ◌≤◌, false, ltb, List, ◌++◌, length, take, drop, ◌-◌, Result, Ok, refl, sym, ap, ◌∙◌, arith}
use Rattle.std.proofs.lemmas.Bool.{le-ltb}
use Rattle.market_types.specs.declared.error.CodecError.{CodecError}
use Rattle.std.proofs.lemmas.List.{take_at, drop_at, take_all, length-append, length-drop, drop-drop}
use Rattle.wire_fields.specs.Numbers.{number_bytes, number_of}
use Rattle.itch_codec.specs.Frames.{framed, framed_length, unframed}

-- the number of two bytes
two_again : (n : ℕ) → n ≤ 65535 → number_of (number_bytes 2 n) ≡ n
two_again n le = omega arith

length_again : (payload rest : List ℕ) → length payload ≤ 65535 → framed_length (framed payload ++ rest) ≡ length payload
length_again payload rest le = two_again (length payload) le

pub unframed_again : (payload rest : List ℕ) → length payload ≤ 65535 → unframed (framed payload ++ rest) ≡ Ok (payload, rest)
unframed_again payload rest le =
    let len = length_again payload rest le in
    let two : ltb (length (framed payload ++ rest)) 2 ≡ false = le-ltb _ _ (omega arith) in
    let all : ltb (length (framed payload ++ rest)) (2 + length payload) ≡ false = le-ltb _ _ (omega (arith, length-append payload rest)) in
    let first : take (length payload) (drop 2 (framed payload ++ rest)) ≡ payload = take_at payload rest (length payload) refl in
    let left : drop (2 + length payload) (framed payload ++ rest) ≡ rest = rw (← drop-drop (length payload) 2 (framed payload ++ rest)) (drop_at payload rest (length payload) refl) in
    rw (two, len, all, first, left) refl

-- the parts as the code cuts them
parts_are : (bytes : List ℕ) (len : ℕ) → 2 ≤ length bytes → len ≡ framed_length bytes → 2 + len ≤ length bytes
    → unframed bytes ≡ Ok (take (2 + len - 2) (drop 2 bytes), take (length bytes - (2 + len)) (drop (2 + len) bytes))
parts_are bytes len two is all =
    let first : ltb (length bytes) 2 ≡ false = le-ltb _ _ two in
    let second : ltb (length bytes) (2 + framed_length bytes) ≡ false = le-ltb _ _ (omega arith) in
    let size : 2 + len - 2 ≡ len = omega arith in
    let whole : take (length bytes - (2 + len)) (drop (2 + len) bytes) ≡ drop (2 + len) bytes = take_all _ _ (omega (arith, length-drop (2 + len) bytes)) in
    rw (first, second, size, whole, is) refl

abbrev answered : List ℕ → List ℕ → Result (List ℕ × List ℕ) CodecError
answered payload rest = Ok (payload, rest)

pub parts_again : (bytes payload rest : List ℕ) (len : ℕ) → 2 ≤ length bytes → len ≡ framed_length bytes → 2 + len ≤ length bytes → length payload ≤ 65535 → bytes ≡ framed payload ++ rest
    → answered (take (2 + len - 2) (drop 2 bytes)) (take (length bytes - (2 + len)) (drop (2 + len) bytes)) ≡ answered payload rest
parts_again bytes payload rest len two is all le framed_is = sym (parts_are bytes len two is all) ∙ ap unframed framed_is ∙ unframed_again payload rest le
