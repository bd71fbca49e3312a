-- What the bytes of a study say as a TOML table, and what is found in it.
use Rattle.std.specs.Prelude.{ℕ, ℤ, Bool, List, Option, None, if◌then◌else◌, option_and_then}
use Rattle.std.specs.Str.{is_utf8}
use Rattle.std.specs.List.{list_any}
use Rattle.std.specs.Str.{bytes_eq}
use Rattle.toml.specs.Data.{as_integer, as_str, as_table, as_array, Members, Items, get_member}
use Rattle.toml.specs.Parse.{parse_document}

-- the TOML table that the bytes are the text of, if any
abbrev pub table_of : List ℕ → Option Members
table_of bytes = if is_utf8 bytes then parse_document bytes else None

-- the key is one of these names
abbrev pub is_named : List (List ℕ) → List ℕ → Bool
is_named names key = list_any (λ name. bytes_eq name key) names

-- the whole number at a key
abbrev pub integer_at : List ℕ → Members → Option ℤ
integer_at key table = option_and_then as_integer (get_member key table)

-- the text at a key
abbrev pub text_at : List ℕ → Members → Option (List ℕ)
text_at key table = option_and_then as_str (get_member key table)

-- the table at a key
abbrev pub table_at : List ℕ → Members → Option Members
table_at key table = option_and_then as_table (get_member key table)

-- the array at a key
abbrev pub array_at : List ℕ → Members → Option Items
array_at key table = option_and_then as_array (get_member key table)
