use Rattle.std.specs.Prelude.{ℕ, List}

-- A list, and a number of places that are kept for more of it.
pub record Room (X : Type 0) : Type 0 where
  pub list : List X
  pub spare : ℕ
