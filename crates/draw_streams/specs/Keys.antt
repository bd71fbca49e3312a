-- Keys as numbers of eight bytes.
use Rattle.std.specs.Prelude.{ℕ, Bool, List, ◌&&◌, ◌==◌, drop}
use Rattle.std.specs.Int.{w64, from_le_bytes}

-- the number of the eight bytes of a key from a place on, the first byte the lowest
abbrev pub number_at : List ℕ → ℕ → ℕ
number_at key at = from_le_bytes w64 (drop at key)

-- the four numbers of two keys of 32 bytes are the same
abbrev pub same_numbers : List ℕ → List ℕ → Bool
same_numbers a b =
    (number_at a 0 == number_at b 0) && ((number_at a 8 == number_at b 8) && ((number_at a 16 == number_at b 16) && (number_at a 24 == number_at b 24)))
