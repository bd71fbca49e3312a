use Rattle.std.specs.Prelude.{ℕ, List, Option}

-- A stream as a sink: the faults that were counted, and what the stream tells that it was given.
pub record StreamTold : Type 0 where
  pub faults : ℕ
  pub given : Option (List ℕ)
