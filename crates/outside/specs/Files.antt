use Rattle.std.specs.Prelude.{ℕ, List, [], ◌∷◌, Option, Some, None, length, nat_lt, ◌≤◌, if◌then◌else◌, bytes_eq, map, string_bytes}
use Rattle.std.specs.declared.string.String.{String}
use Rattle.std.specs.declared.vec.Vec.{Vec}
use Rattle.std.specs.declared.alloc.Global.{Global}

-- The bytes that are held under a name: those of the first file with that name. A file is a pair of its name and
-- its bytes.
abbrev pub held : List (List ℕ × List ℕ) → List ℕ → Option (List ℕ)
held [] name = None
held (file ∷ files) name = if bytes_eq file.0 name then Some file.1 else held files name

-- What a library answers: the name is not held, its bytes are too many, or these are its bytes.
pub data Content : Type 0 where
  absent : Content
  too_long : Content
  whole : List ℕ → Content

-- The answer for what is held, where at most so many bytes are asked for.
abbrev pub content : Option (List ℕ) → ℕ → Content
content None most = absent
content (Some bytes) most = if nat_lt most (length bytes) then too_long else whole bytes

-- Bytes that are answered are at most so many.
abbrev pub AtMost : ℕ → Content → Type 0
AtMost most (whole bytes) = length bytes ≤ most
AtMost most absent = Unit {0}
AtMost most too_long = Unit {0}

-- Files that a program holds, as pairs of a name and its bytes.
abbrev pub files_in : List (String Global × Vec ℕ Global) → List (List ℕ × List ℕ)
files_in files = map (λ file. (string_bytes file.0, file.1.items)) files
