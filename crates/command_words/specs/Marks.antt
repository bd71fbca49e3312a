-- The arguments of a rewind: a branch and the number of an event.
use Rattle.std.specs.Prelude.{ℕ, Bool, true, ◌≡◌, ◌&&◌, ◌||◌, ◌==◌, if◌then◌else◌, List, [], ◌∷◌, ◌++◌, length, Option, Some, None}
use Rattle.std.specs.Int.{is_in_range}
use Rattle.std.specs.List.{list_all, before_first, after_first}
use Rattle.std.specs.Char.{is_ascii_digit, is_ascii_lowercase}
use Rattle.std.specs.Str.Parse.{digits_value}
use Rattle.command_words.specs.Numbers.{is_digits, number_of}
use Rattle.command_words.specs.declared.mark.Mark.{Mark}

-- `a` to `z`, `0` to `9`, `_` and `-`
abbrev pub is_name_byte : ℕ → Bool
is_name_byte b = is_ascii_lowercase b || is_ascii_digit b || b == 95 || b == 45

-- 1 to 32 of these bytes
abbrev pub is_branch_name : List ℕ → Bool
is_branch_name text = is_in_range 1 32 (length text) && list_all is_name_byte text

abbrev pub is_colon : ℕ → Bool
is_colon b = b == 58

abbrev pub mark_from : List ℕ → List ℕ → Option ℕ → Option Mark
mark_from word branch None = None
mark_from word branch (Some event) = if is_branch_name branch then Some (record { word = word; branch = branch; event = event }) else None

-- a branch name, a colon, and an event number of 1 to 7 digits
abbrev pub mark_of : List ℕ → Option Mark
mark_of word = mark_from word (before_first is_colon word) (number_of 7 (after_first is_colon word))

abbrev pub mark_before : Option Mark → Option (List Mark) → Option (List Mark)
mark_before (Some mark) (Some marks) = Some (mark ∷ marks)
mark_before _ _ = None

-- the mark of each word; none where one of the words is no mark
abbrev pub marks_of : List (List ℕ) → Option (List Mark)
marks_of [] = Some []
marks_of (word ∷ words) = mark_before (mark_of word) (marks_of words)

-- a mark's word is its branch's name, a colon, and the digits of its event
pub record IsSpelled (word : List ℕ) (mark : Mark) : Type 0 where
  pub whole : mark.word ≡ word
  pub named : is_branch_name mark.branch ≡ true
  pub digits : List ℕ
  pub spelling : word ≡ mark.branch ++ 58 ∷ digits
  pub written : is_digits 7 digits ≡ true
  pub event : mark.event ≡ digits_value 10 digits
