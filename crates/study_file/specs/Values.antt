-- What the tables of a study say.
use Rattle.std.specs.Prelude.{ℕ, ℤ, pos, int_le, Bool, ◌&&◌, not, true, false, List, [], Option, None, Some, unwrap_or, position}
use Rattle.toml.specs.Data.{Data, no_items, Members, no_members, as_integer, as_array, as_table}
use Rattle.study_file.specs.Tables.{integer_at, text_at, array_at, table_at}
use Rattle.study_file.specs.Keys.{items_list, passes}

-- the number of a value, and 0 where it is none
abbrev pub number_in : Data → ℤ
number_in d = unwrap_or (as_integer d) (pos 0)

-- the items of a value, and none where it is no array
abbrev pub list_in : Data → List Data
list_in d = items_list (unwrap_or (as_array d) no_items)

-- the number at a key, and the default where there is none
abbrev pub number_or : ℤ → List ℕ → Members → ℤ
number_or default key t = unwrap_or (integer_at key t) default

abbrev pub number_at : List ℕ → Members → ℤ
number_at key t = number_or (pos 0) key t

-- the text at a key, and the empty one where there is none
abbrev pub string_at : List ℕ → Members → List ℕ
string_at key t = unwrap_or (text_at key t) []

-- the table at a key, and the empty one where there is none
abbrev pub members_at : List ℕ → Members → Members
members_at key t = unwrap_or (table_at key t) no_members

-- the items of the array at a key, and none where there is no array
abbrev pub list_at : List ℕ → Members → List Data
list_at key t = items_list (unwrap_or (array_at key t) no_items)

-- the number is from the low to the high one
abbrev pub is_between : ℤ → ℤ → ℤ → Bool
is_between low high z = int_le low z && int_le z high

-- the number at a key is from the low to the high one
abbrev pub has_between : ℤ → ℤ → List ℕ → Members → Bool
has_between low high key t = is_between low high (number_at key t)

-- the place of the first of the tables that doesn't pass the test
abbrev pub first_failing : (Members → Bool) → List Data → Option ℕ
first_failing test tables = position (λ d. not (passes test (as_table d))) tables

-- the place, where the rule is broken there
abbrev pub broken_unless : Bool → ℕ → Option ℕ
broken_unless true place = None
broken_unless false place = Some place
