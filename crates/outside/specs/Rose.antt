use Rattle.std.specs.Prelude.{◌≡◌, ℕ, ◌+◌, ◌<◌, ◌⊎◌, min}

-- The last value of a 64-bit count, at which it stands still.
abbrev pub last_count : ℕ
last_count = 18446744073709551615

-- A count rose in a call: it is greater afterwards, or it stands at its last value.
abbrev pub Rose : ℕ → ℕ → Type 0
Rose before after = (before < after) ⊎ (after ≡ last_count)

-- A count one higher, or at its last value.
abbrev pub raised : ℕ → ℕ
raised count = min (count + 1) last_count
