-- What the orders of a file are.
use Rattle.std.specs.Prelude.{◌≡◌, ◌≤◌, ℕ, ◌+◌, true, List, [], ◌∷◌, All, length}
use Rattle.reopen_cross.specs.declared.cross.Interest.{Interest}
use Rattle.reopen_cross.specs.Orderly.{AreInterests}

-- their references are the numbers from this one on
abbrev pub AreNumbered : ℕ → List Interest → Type 0
AreNumbered n [] = Unit {0}
AreNumbered n (o ∷ os) = (o.reference ≡ n) × AreNumbered (n + 1) os

-- At most 16,384 displayed orders, numbered 1, 2, 3 and so on, each with 1 to 999,999 open shares at a price.
pub record AreFiled (orders : List Interest) : Type 0 where
  pub few : length orders ≤ 16384
  pub numbered : AreNumbered 1 orders
  pub shown : All (λ (o : Interest). o.shown ≡ true) orders
  pub interests : AreInterests orders

-- an order of a file behind a book whose last reference is this one
abbrev pub numbered_after : ℕ → Interest → Interest
numbered_after last o = record o { reference = last + o.reference }
