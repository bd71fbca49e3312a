-- The frame that bytes begin with.
use Rattle.std.proofs.Common.{◌≡◌, ◌∙◌, ℕ, ◌+◌, ◌^◌, ◌<◌, ◌≤◌, nat_lt, Bool, true, false, List, ◌++◌, length, take, drop, Option, Some, Result, Ok, Err, IfSome, if◌then◌else◌, refl, sym, ap, subst, append_assoc, arith}
use Rattle.std.proofs.lemmas.Bool.{ltb-false}
use Rattle.std.proofs.lemmas.List.{drop-drop, length-drop, length-take-le, take-append-drop}
use Rattle.market_types.specs.declared.error.CodecError.{CodecError}
use Rattle.market_types.specs.declared.error.CodecError.TheVariants.{Cut}
use Rattle.wire_fields.specs.Numbers.{number_bytes}
use Rattle.wire_fields.proofs.Digits.{IsBytes, IsBytes-take, number_of-bound, number_bytes-number_of}
use Rattle.itch_codec.specs.Frames.{framed, framed_length, unframed}
use Rattle.bundle_reader.specs.declared.frame.Frame.{Frame}
use Rattle.bundle_reader.specs.Frames.{IsFrame, Begins}

-- These bytes are a frame with this payload and this rest. A length has two bytes.
record IsFramed (bytes first rest : List ℕ) : Type 0 where
  whole : bytes ≡ framed first ++ rest
  short : length first ≤ 65535

-- what stands behind the length, and behind that
abbrev behind : List ℕ → List ℕ
behind bytes = take (framed_length bytes) (drop 2 bytes)

abbrev after : List ℕ → List ℕ
after bytes = drop (2 + framed_length bytes) bytes

is_framed : (bytes : List ℕ) → IsBytes bytes → 2 ≤ length bytes → 2 + framed_length bytes ≤ length bytes → IsFramed bytes (behind bytes) (after bytes)
is_framed bytes fits two enough =
    let n = framed_length bytes in
    let part = take 2 bytes in
    let len_part : length part ≡ 2 = length-take-le 2 bytes two in
    let len_first : length (behind bytes) ≡ n = length-take-le n (drop 2 bytes) (omega (arith, length-drop 2 bytes)) in
    let bytes_part : IsBytes part = IsBytes-take 2 bytes fits in
    let written : number_bytes 2 n ≡ part = ap (λ (m : ℕ). number_bytes m n) (sym len_part) ∙ number_bytes-number_of part bytes_part in
    let bound : n < 256 ^ 2 = subst (λ (m : ℕ). n < 256 ^ m) len_part (number_of-bound part bytes_part) in
    record {
      whole = sym (take-append-drop 2 bytes)
          ∙ ap (λ (l : List ℕ). part ++ l) (sym (take-append-drop n (drop 2 bytes)) ∙ ap (λ (l : List ℕ). behind bytes ++ l) (drop-drop n 2 bytes))
          ∙ sym (append_assoc part (behind bytes) (after bytes))
          ∙ ap (λ (l : List ℕ). l ++ behind bytes ++ after bytes) (sym written ∙ ap (number_bytes 2) (sym len_first));
      short = omega (arith, bound, len_first);
    }

ok_same : {A B : Type 0} (a b : A) → ◌≡◌ {A = Result A B} (Ok a) (Ok b) → a ≡ b
ok_same a b e = cc

ok_err : {A B : Type 0} (a : A) (b : B) → ◌≡◌ {A = Result A B} (Ok a) (Err b) → ⊥
ok_err a b e = cc

-- the parts of bytes, by both tests of their length
parts_by : (bytes first rest : List ℕ) (short less : Bool) → IsBytes bytes → nat_lt (length bytes) 2 ≡ short → nat_lt (length bytes) (2 + framed_length bytes) ≡ less
    → ◌≡◌ {A = Result (List ℕ × List ℕ) CodecError} (Ok (first, rest))
    (if short then Err (Cut (length bytes)) else (if less then Err (Cut (length bytes)) else Ok (behind bytes, after bytes)))
    → IsFramed bytes first rest
parts_by bytes first rest true less fits a b e = absurd (ok_err (first, rest) (Cut (length bytes)) e)
parts_by bytes first rest false true fits a b e = absurd (ok_err (first, rest) (Cut (length bytes)) e)
parts_by bytes first rest false false fits a b e =
    let same : ◌≡◌ {A = List ℕ × List ℕ} (first, rest) (behind bytes, after bytes) = ok_same (first, rest) (behind bytes, after bytes) e in
    let P : List ℕ × List ℕ → Type 0 = λ p. IsFramed bytes p.0 p.1 in
    subst P (sym same) (is_framed bytes fits (ltb-false (length bytes) 2 a) (ltb-false (length bytes) (2 + framed_length bytes) b))

-- bytes begin with the frame whose payload was taken out of them
pub begins_of : (stocks : Option ℕ) (bytes first rest : List ℕ) (f : Frame) → IsBytes bytes
    → ◌≡◌ {A = Result (List ℕ × List ℕ) CodecError} (Ok (first, rest)) (unframed bytes) → IsFrame stocks first f → Begins stocks bytes f rest
begins_of stocks bytes first rest f fits parts frame =
    let is = parts_by bytes first rest (nat_lt (length bytes) 2) (nat_lt (length bytes) (2 + framed_length bytes)) fits refl refl parts in
    record {
      same = is.whole ∙ ap (λ (l : List ℕ). framed l ++ rest) frame.same;
      short = omega (arith, is.short, ap length frame.same);
      ranges = frame.ranges;
    }

pub some_frame : (stocks : Option ℕ) (bytes : List ℕ) (o : Option Frame) (f : Frame) → o ≡ Some f → IfSome o (IsFrame stocks bytes) → IsFrame stocks bytes f
some_frame stocks bytes o f same is = let P : Option Frame → Type 0 = λ k. IfSome k (IsFrame stocks bytes) in subst P same is
