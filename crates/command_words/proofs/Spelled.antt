-- Words that are marks: a name, a colon, digits.
use Rattle.std.proofs.Common.{ℕ, ◌+◌, ◌<◌, ◌≤◌, ◌==◌, true, false, not, cond, List, [], ◌∷◌, ◌++◌, ◌≡◌, ◌∙◌, Option, Some, None, if◌then◌else◌, length, take, drop, get_or, refl, sym, ap, ap₂, arith}
use Rattle.std.specs.Int.{is_in_range}
use Rattle.std.specs.List.{list_all, position_or_len, before_first, after_first}
use Rattle.std.specs.Str.Parse.{digits_value}
use Rattle.std.proofs.lemmas.Bool.{and_parts}
use Rattle.std.proofs.lemmas.Bool.Decides.{nat_tests}
use Rattle.std.proofs.lemmas.List.{length-drop}
use Rattle.std.proofs.lemmas.List.Sums.{split_at_first, passes_at_first}
use Rattle.std.proofs.Math.Seq.{take-append_seam, drop-append-add}
use Rattle.command_words.specs.Numbers.{is_digits, number_of}
use Rattle.command_words.specs.Marks.{IsSpelled, is_branch_name, is_colon, is_name_byte, mark_from, mark_of}
use Rattle.command_words.specs.declared.mark.Mark.{Mark}
use Rattle.command_words.proofs.Numbers.{given, digits_parts, number_parts}

-- no byte of a name is a colon
no_colon : (b : ℕ) → is_name_byte b ≡ true → is_colon b ≡ false
no_colon b h = grind (arith, nat_tests)

-- the first colon is the one that follows the name
colon_after : (name rest : List ℕ) → list_all is_name_byte name ≡ true → position_or_len is_colon (name ++ 58 ∷ rest) ≡ length name
colon_after [] rest h = refl
colon_after (b ∷ bs) rest h =
    let parts = and_parts (is_name_byte b) (list_all is_name_byte bs) h in
    let here : is_colon b ≡ false = no_colon b parts.0 in
    let more : position_or_len is_colon (bs ++ 58 ∷ rest) ≡ length bs = colon_after bs rest parts.1 in
    (λ i. cond (not (here i)) (1 + more i) 0) ∙ omega arith

-- what stands before and after it
sides : (name rest : List ℕ) → list_all is_name_byte name ≡ true → (before_first is_colon (name ++ 58 ∷ rest) ≡ name) × (after_first is_colon (name ++ 58 ∷ rest) ≡ rest)
sides name rest h =
    let at = colon_after name rest h in (
      ap (λ n. take n (name ++ 58 ∷ rest)) at ∙ take-append_seam name (58 ∷ rest),
      ap (λ n. drop (n + 1) (name ++ 58 ∷ rest)) at ∙ drop-append-add name (58 ∷ rest) 1,
    )

-- each name with a colon and digits is a mark
pub reads : (name digits : List ℕ) → is_branch_name name ≡ true → is_digits 7 digits ≡ true
    → mark_of (name ++ 58 ∷ digits) ≡ Some (record { word = name ++ 58 ∷ digits; branch = name; event = digits_value 10 digits })
reads name digits named written =
    let word = name ++ 58 ∷ digits in
    let letters = and_parts (is_in_range 1 32 (length name)) (list_all is_name_byte name) named in
    let parts = sides name digits letters.1 in
    let number : number_of 7 digits ≡ Some (digits_value 10 digits) = λ i. if written i then Some (digits_value 10 digits) else None in
    let cut : mark_of word ≡ mark_from word name (Some (digits_value 10 digits)) = ap₂ (mark_from word) parts.0 (ap (number_of 7) parts.1 ∙ number) in
    cut ∙ (λ i. if named i then Some (record { word = word; branch = name; event = digits_value 10 digits }) else None)

-- what a mark is made of
record IsFrom (word branch : List ℕ) (o : Option ℕ) (mark : Mark) : Type 0 where
  whole : mark.word ≡ word
  front : mark.branch ≡ branch
  named : is_branch_name branch ≡ true
  number : o ≡ Some mark.event

from : (word branch : List ℕ) (o : Option ℕ) (mark : Mark) → mark_from word branch o ≡ Some mark → IsFrom word branch o mark
from word branch None mark h = cc
from word branch (Some event) mark h =
    let parts = given (is_branch_name branch) (record { word = word; branch = branch; event = event }) mark h in
    record {
      whole = sym (ap (λ (m : Mark). m.word) parts.1);
      front = sym (ap (λ (m : Mark). m.branch) parts.1);
      named = parts.0;
      number = ap (λ (m : Mark). Some m.event) parts.1;
    }

-- a word with something after a colon has a colon
colon_stands : (word : List ℕ) → 1 ≤ length (after_first is_colon word) → word ≡ before_first is_colon word ++ 58 ∷ after_first is_colon word
colon_stands word some =
    let at : ℕ = position_or_len is_colon word in
    let inside : position_or_len is_colon word < length word = omega (arith, length-drop (position_or_len is_colon word + 1) word) in
    let passes : (get_or word (position_or_len is_colon word) 0 == 58) ≡ true = passes_at_first is_colon word 0 inside in
    let colon : get_or word (position_or_len is_colon word) 0 ≡ 58 = grind (arith, nat_tests) in
    split_at_first is_colon word 0 inside ∙ ap (λ c. before_first is_colon word ++ c ∷ after_first is_colon word) colon

-- each mark is such a word
pub is_spelled : (word : List ℕ) (mark : Mark) → mark_of word ≡ Some mark → IsSpelled word mark
is_spelled word mark h =
    let made = from word (before_first is_colon word) (number_of 7 (after_first is_colon word)) mark h in
    let number = number_parts 7 (after_first is_colon word) mark.event made.number in
    let some = (digits_parts 7 (after_first is_colon word) number.0).0 in
    let stands = colon_stands word some in
    record {
      whole = made.whole;
      named = rw made.front made.named;
      digits = after_first is_colon word;
      spelling = stands ∙ ap (λ front. front ++ 58 ∷ after_first is_colon word) (sym made.front);
      written = number.0;
      event = sym number.1;
    }
