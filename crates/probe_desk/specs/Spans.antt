-- The least and the greatest price as the probe of prices keeps them.
use Rattle.std.specs.Prelude.{ℕ, ℤ, pos, List, [], ◌∷◌, Option, None, Some, min, max}
use Rattle.probe_desk.specs.declared.price_range.Span.{Span}

abbrev pub numbers_of : Option Span → List ℤ
numbers_of None = []
numbers_of (Some span) = pos span.least ∷ pos span.greatest ∷ []

abbrev pub widened_of : Option Span → ℕ → Span
widened_of None price = record { least = price; greatest = price }
widened_of (Some span) price = record { least = min span.least price; greatest = max span.greatest price }
