use Rattle.std.specs.Prelude.{◌≡◌, ℕ, List, ◌++◌, Option, Some, None}

-- What a sink has taken once it took these bytes too. Where it does not tell its bytes, nothing is known.
abbrev pub appended : Option (List ℕ) → List ℕ → Option (List ℕ)
appended None bytes = None
appended (Some taken) bytes = Some (taken ++ bytes)

-- Between the old bytes and the new ones, a sink took a first part of these bytes and nothing else.
pub record TookPrefix (old new : Option (List ℕ)) (whole : List ℕ) : Type 0 where
  pub part : List ℕ
  pub rest : List ℕ
  pub split : part ++ rest ≡ whole
  pub took : new ≡ appended old part
