-- What a study's tables say as plain numbers.
use Rattle.std.specs.Prelude.{ℕ, ℤ, unsigned_abs, List, position, unwrap_or}
use Rattle.std.specs.Str.{bytes_eq}
use Rattle.toml.specs.Data.{Data, Members, no_members, as_table}
use Rattle.study_file.specs.Values.{number_or, number_at}

-- the table of an entry
abbrev pub entry_of : Data → Members
entry_of d = unwrap_or (as_table d) no_members

-- the number at a key, which isn't negative
abbrev pub natural_at : List ℕ → Members → ℕ
natural_at key t = unsigned_abs (number_at key t)

-- the same, and the default where there is none
abbrev pub natural_or : ℤ → List ℕ → Members → ℕ
natural_or default key t = unsigned_abs (number_or default key t)

-- the place of the stock of a symbol
abbrev pub place_of : List (List ℕ) → List ℕ → ℕ
place_of known symbol = unwrap_or (position (λ (name : List ℕ). bytes_eq name symbol) known) 0
