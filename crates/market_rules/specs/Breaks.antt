-- Where a list leaves its order.
use Rattle.std.specs.Prelude.{ℕ, ◌+◌, Bool, if◌then◌else◌, List, [], ◌∷◌, Option, None, Some}

-- the place of the first item that may not follow the one before it; the list stands at place k, after an item
abbrev pub break_after : {X : Type 0} → (X → X → Bool) → X → ℕ → List X → Option ℕ
break_after follows before k [] = None
break_after follows before k (x ∷ xs) = if follows before x then break_after follows x (k + 1) xs else Some k

-- the place of the first item that may not follow the one before it
abbrev pub first_break : {X : Type 0} → (X → X → Bool) → List X → Option ℕ
first_break follows [] = None
first_break follows (x ∷ xs) = break_after follows x 1 xs
