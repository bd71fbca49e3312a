-- Names of branches.
use Rattle.std.specs.Prelude.{ℕ, ◌≤◌, ◌&&◌, ◌||◌, ◌==◌, Bool, nat_le, if◌then◌else◌, List, length, Option, Some, None}
use Rattle.std.specs.Int.{is_in_range}
use Rattle.std.specs.List.{list_all}

-- a name has so many bytes
pub record IsNameLength (n : ℕ) : Type 0 where
  pub some : 1 ≤ n
  pub few : n ≤ 32

-- a text of 1 to 32 bytes is a name, and no other is
abbrev pub name_of : List ℕ → Option (List ℕ)
name_of text = if nat_le 1 (length text) && nat_le (length text) 32 then Some text else None

-- `a` to `z`, `0` to `9`, `_` and `-`
abbrev pub is_name_byte : ℕ → Bool
is_name_byte c = is_in_range 97 122 c || is_in_range 48 57 c || c == 95 || c == 45

-- 1 to 32 of these bytes may name a study's branch
abbrev pub is_name : List ℕ → Bool
is_name text = is_in_range 1 32 (length text) && list_all is_name_byte text
