-- What it is that a table has its keys with their types and no other.
use Rattle.std.specs.Prelude.{ℕ, ◌==◌, ◌&&◌, ◌||◌, not, suc, Bool, true, false, List, [], ◌∷◌, Option, Some, None, option_map, if◌then◌else◌, is_some, is_none, length, filter, position}
use Rattle.std.specs.Option.{option_or}
use Rattle.std.specs.Int.{is_in_range}
use Rattle.std.specs.List.{list_all, list_any}
use Rattle.std.specs.Str.{bytes_eq}
use Rattle.toml.specs.Data.{Data, Items, no_items, item, Members, no_members, member, as_integer, as_str, as_array, as_table, get_member}
use Rattle.study_file.specs.Tables.{is_named, text_at}
use Rattle.study_file.specs.declared.keys.Kind.{Kind}
use Rattle.study_file.specs.declared.keys.Kind.TheVariants.{Number, Text, HexText, SubTable, Tables, Rows, Pairs}

-- A key that a table may have: with these kinds of table only, or with every kind where none is named.
pub record KeyRule : Type 0 where
  pub name : List ℕ
  pub kind : Kind
  pub needed : Bool
  pub with : List (List ℕ)

-- a key that has to be there
abbrev pub needed : List ℕ → Kind → KeyRule
needed name kind = record { name = name; kind = kind; needed = true; with = [] }

-- a key that may be left out
abbrev pub spare : List ℕ → Kind → KeyRule
spare name kind = record { name = name; kind = kind; needed = false; with = [] }

-- a key that tables of these kinds have
abbrev pub own : List ℕ → Kind → List (List ℕ) → KeyRule
own name kind with = record { name = name; kind = kind; needed = true; with = with }

-- the items as a list
abbrev pub items_list : Items → List Data
items_list no_items = []
items_list (item d rest) = d ∷ items_list rest

-- a digit of lower-case hexadecimal
abbrev pub is_hex_digit : ℕ → Bool
is_hex_digit c = is_in_range 48 57 c || is_in_range 97 102 c

-- the value is there and passes the test
abbrev pub passes : {X : Type 0} → (X → Bool) → Option X → Bool
passes test None = false
passes test (Some x) = test x

abbrev pub is_number : Data → Bool
is_number d = is_some (as_integer d)

-- an array, each of whose items passes the test
abbrev pub is_array_of : (Data → Bool) → Data → Bool
is_array_of test d = passes (λ items. list_all test (items_list items)) (as_array d)

-- an array of two numbers
abbrev pub is_pair : Data → Bool
is_pair d = passes (λ items. length (items_list items) == 2 && list_all is_number (items_list items)) (as_array d)

-- the value has the type
abbrev pub is_of : Kind → Data → Bool
is_of Number d = is_number d
is_of Text d = is_some (as_str d)
is_of HexText d = passes (λ text. list_all is_hex_digit text) (as_str d)
is_of SubTable d = is_some (as_table d)
is_of Tables d = is_array_of (λ x. is_some (as_table x)) d
is_of Rows d = is_array_of (is_array_of is_number) d
is_of Pairs d = is_array_of is_pair d

-- the key is one of a table of this kind
abbrev pub belongs : List ℕ → KeyRule → Bool
belongs word key = length key.with == 0 || is_named key.with word

-- the keys of a table of this kind
abbrev pub keys_for : List ℕ → List KeyRule → List KeyRule
keys_for word keys = filter (belongs word) keys

-- a found value has the key's type; where none is found, the key has a default
abbrev pub found_holds : KeyRule → Option Data → Bool
found_holds key None = not key.needed
found_holds key (Some d) = is_of key.kind d

abbrev pub key_holds : Members → KeyRule → Bool
key_holds t key = found_holds key (get_member key.name t)

-- the table has no key but these
abbrev pub has_no_other : List KeyRule → Members → Bool
has_no_other keys no_members = true
has_no_other keys (member name value rest) = list_any (λ (k : KeyRule). bytes_eq k.name name) keys && has_no_other keys rest

-- The place at which a table hasn't its keys with their types and no other: the number, from 1, of the first key that is
-- missing or of another type, else 99 for another key.
abbrev pub broken_among : List KeyRule → Members → Option ℕ
broken_among keys t =
    option_or (option_map suc (position (λ key. not (key_holds t key)) keys))
    (if has_no_other keys t then None else Some 99)

abbrev pub broken_key : List ℕ → List KeyRule → Members → Option ℕ
broken_key word keys t = broken_among (keys_for word keys) t

-- a table of this kind has its keys with their types and no other
abbrev pub has_keys : List ℕ → List KeyRule → Members → Bool
has_keys word keys t = is_none (broken_key word keys t)

-- A table whose kind is the text at one of its keys: the words of the kinds and the keys.
pub record Form : Type 0 where
  pub by : List ℕ
  pub words : List (List ℕ)
  pub keys : List KeyRule

-- the kind is known, and the table has the keys of its kind with their types and no other
abbrev pub has_form : Form → Members → Bool
has_form form t = passes (λ word. is_named form.words word && has_keys word form.keys t) (text_at form.by t)
