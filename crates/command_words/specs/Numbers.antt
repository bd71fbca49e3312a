-- Numbers as the words write them.
use Rattle.std.specs.Prelude.{ℕ, Bool, ◌&&◌, if◌then◌else◌, List, length, Option, Some, None, option_and_then}
use Rattle.std.specs.Int.{is_in_range}
use Rattle.std.specs.List.{list_all}
use Rattle.std.specs.Char.{is_ascii_digit}
use Rattle.std.specs.Str.Parse.{digits_value}

-- 1 to so many ASCII digits
abbrev pub is_digits : ℕ → List ℕ → Bool
is_digits most text = is_in_range 1 most (length text) && list_all is_ascii_digit text

-- the number that 1 to so many ASCII digits write; another text writes none
abbrev pub number_of : ℕ → List ℕ → Option ℕ
number_of most text = if is_digits most text then Some (digits_value 10 text) else None

-- a number of one to four ASCII digits that lies in this range
abbrev pub count_of : ℕ → ℕ → List ℕ → Option ℕ
count_of least greatest text = option_and_then (λ n. if is_in_range least greatest n then Some n else None) (number_of 4 text)
