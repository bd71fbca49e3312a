-- A draw scaled to a number below a limit.
use Rattle.std.specs.Prelude.{ℕ, ◌*◌, ◌/◌, ◌^◌}

-- the part of m that the word is of 2 ^ 32, rounded down
abbrev pub below_of : ℕ → ℕ → ℕ
below_of word m = word * m / 2 ^ 32
