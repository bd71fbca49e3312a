-- What a hash of a token reads.
use Rattle.std.specs.Prelude.{ℕ, ◌+◌, ◌*◌, ◌%◌, ◌==◌, if◌then◌else◌, List, length, slice_index}

-- the number after a write: the first byte that is written joins it as its last, and of those before it three stay
abbrev pub mixed : ℕ → List ℕ → ℕ
mixed n bytes = if length bytes == 0 then n else n % 0x100_0000 * 0x100 + slice_index bytes 0
