-- Tables for worked examples.
use Rattle.std.specs.Prelude.{ℕ, List, [], ◌∷◌}
use Rattle.latency_model.specs.Tables.{Tables}

-- one group
abbrev pub one_group : ℕ → ℕ → Tables
one_group base jitter = record { base = (base ∷ []) ∷ []; jitter = (jitter ∷ []) ∷ [] }

-- a row of two numbers for each of two groups
abbrev pub square : ℕ → ℕ → ℕ → ℕ → List (List ℕ)
square a b c d = (a ∷ b ∷ []) ∷ (c ∷ d ∷ []) ∷ []

-- two groups with a base and a jitter of its own for each pair
abbrev pub two_groups : Tables
two_groups = record { base = square 10 20 30 40; jitter = square 0 0 3 4 }
