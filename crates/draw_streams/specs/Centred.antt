-- A draw scaled to a number that lies as far below zero as above.
use Rattle.std.specs.Prelude.{ℕ, ℤ, pos, ◌-ℤ◌, ◌+◌, ◌*◌}
use Rattle.draw_streams.specs.Below.{below_of}

-- one of the 2 * range + 1 numbers from -range to range
abbrev pub centred_of : ℕ → ℕ → ℤ
centred_of word range = pos (below_of word (2 * range + 1)) -ℤ pos range
