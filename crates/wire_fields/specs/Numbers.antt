-- Numbers of n bytes, the most significant first.
use Rattle.std.specs.Prelude.{ℕ, zero, suc, ◌+◌, ◌*◌, ◌/◌, ◌%◌, ◌^◌, List, [], ◌∷◌, length}

-- the last n bytes of a number
abbrev pub number_bytes : ℕ → ℕ → List ℕ
number_bytes zero number = []
number_bytes (suc n) number = number / 256 ^ n % 256 ∷ number_bytes n number

-- the number of all these bytes
abbrev pub number_of : List ℕ → ℕ
number_of [] = 0
number_of (b ∷ bytes) = b * 256 ^ length bytes + number_of bytes
