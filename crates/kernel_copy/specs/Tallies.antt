-- How many bytes there are, and their sum.
use Rattle.std.specs.Prelude.{◌≡◌, ◌≤◌, ◌+◌, ◌*◌, ◌^◌, ℕ, List, length, sum}
use Rattle.kernel_copy.specs.declared.tally.Tally.{Tally}

-- The tally of these bytes, which came in so many parts, each one that a memory of 64-bit addresses holds.
pub record IsTallyOf (t : Tally) (bytes : List ℕ) (parts : ℕ) : Type 0 where
  pub count : t.count ≡ length bytes
  pub total : t.total ≡ sum bytes
  pub few : t.count ≤ parts * 2 ^ 64
  pub small : t.total ≤ 255 * t.count

-- the tally of no bytes
abbrev pub no_tally : Tally
no_tally = record { count = 0; total = 0 }

-- the tally of bytes
abbrev pub tally_of : List ℕ → Tally
tally_of bytes = record { count = length bytes; total = sum bytes }

-- a tally once these bytes came behind
abbrev pub tally_with : Tally → List ℕ → Tally
tally_with t bytes = record { count = t.count + length bytes; total = t.total + sum bytes }

-- What was counted of a segment's frames: no more than 64 bits count, each a byte.
pub record IsCounted (t : Tally) : Type 0 where
  pub few : t.count ≤ 2 ^ 64
  pub small : t.total ≤ 255 * t.count
