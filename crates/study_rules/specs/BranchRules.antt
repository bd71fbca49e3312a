-- The rules of a study's branches. Each gives the least place at which it is broken, and is asked only where every rule before
-- it holds. The place is the branch's, counted from 0 after the root; of an edit it is 16 times the branch's and the edit's.
use Rattle.std.specs.Prelude.{ℕ, ◌+◌, ◌*◌, ◌==◌, nat_le, unsigned_abs, ℤ, pos, int_le, Bool, ◌&&◌, ◌||◌, not, true, false, List, [], ◌∷◌, Option, None, Some, option_map, if◌then◌else◌, length, map, take, position, slice_index_or, codes}
use Rattle.std.specs.Option.{option_or}
use Rattle.std.specs.List.{list_any, enumerate_from}
use Rattle.std.specs.Str.{bytes_eq}
use Rattle.toml.specs.Data.{Data, Members, as_table}
use Rattle.branch_tree.specs.Names.{is_name}
use Rattle.study_file.specs.Tables.{is_named}
use Rattle.study_file.specs.Keys.{passes, has_keys, has_form}
use Rattle.study_file.specs.Values.{number_at, is_between, has_between, first_failing, broken_unless}
use Rattle.study_market.specs.MarketRules.{opens_at, closes_at}
use Rattle.study_rules.specs.Forms.{branch_keys, edit_form}
use Rattle.study_rules.specs.Entries.{branch_entries, name_in, parent_in, is_timed, stop_in, edits_in}

-- the study is of version 2, in which branches may leave their parents at times
abbrev pub has_times : Members → Bool
has_times t = has_between (pos 2) (pos 2) (codes "version") t

-- at most 127 branches in version 1 and 255 in version 2
abbrev pub most_branches : Bool → ℕ
most_branches times = if times then 255 else 127

-- branch i has its keys with their types and no other: at in version 1, and in version 2 exactly one of at and when
abbrev pub has_branch_keys : Bool → Members → Bool
has_branch_keys times t = has_keys [] (branch_keys (codes "at")) t || (times && has_keys [] (branch_keys (codes "when")) t)

abbrev pub is_branch : Bool → Data → Bool
is_branch times d = passes (has_branch_keys times) (as_table d)

-- the first that is no branch, where the first one stands at a place; one more than the most is one too many
abbrev pub first_no_branch : Bool → ℕ → List Data → Option ℕ
first_no_branch times place [] = None
first_no_branch times place (d ∷ ds) =
    if place == most_branches times || not (is_branch times d) then Some place else first_no_branch times (place + 1) ds

abbrev pub branch_keys_broken : Members → Option ℕ
branch_keys_broken t = first_no_branch (has_times t) 0 (branch_entries t)

-- the names of the root and of these branches
abbrev pub names_of : List Data → List (List ℕ)
names_of ds = codes "root" ∷ map name_in ds

-- name i has 1 to 32 bytes of a to z, 0 to 9, `_`, `-`, isn't `root` and differs from those before
abbrev pub has_new_name : List Data → Data → Bool
has_new_name before d = is_name (name_in d) && not (is_named (names_of before) (name_in d))

-- the first branch that doesn't pass the test beside those before it
abbrev pub first_failing_beside : (List Data → Data → Bool) → List Data → Option ℕ
first_failing_beside test ds = position (λ (p : ℕ × Data). not (test (take p.0 ds) p.1)) (enumerate_from 0 ds)

abbrev pub names_broken : Members → Option ℕ
names_broken t = first_failing_beside has_new_name (branch_entries t)

-- parent of i is `root` or a branch before i
abbrev pub has_parent : List Data → Data → Bool
has_parent before d = is_named (names_of before) (parent_in d)

abbrev pub parents_broken : Members → Option ℕ
parents_broken t = first_failing_beside has_parent (branch_entries t)

-- the place of the branch of a name among these; the root is none of them
abbrev pub place_named : List Data → List ℕ → Option ℕ
place_named ds name = position (λ d. bytes_eq (name_in d) name) ds

abbrev pub events_of : Members → ℕ
events_of t = unsigned_abs (number_at (codes "events") t)

-- at of i isn't above events, when of i is from open to close, and neither is negative
abbrev pub is_stop : Members → Data → Bool
is_stop t d =
    if is_timed d then int_le (pos 0) (stop_in d) && is_between (opens_at t) (closes_at t) (stop_in d)
    else is_between (pos 0) (pos (events_of t)) (stop_in d)

-- the stop of the branch of a name: whether it is a time, and its number; the root's is the event number 0
abbrev pub timed_named : List Data → List ℕ → Bool
timed_named ds name = elim (place_named ds name) [ None ↦ false | Some i ↦ slice_index_or (map is_timed ds) i false ]

abbrev pub stop_named : List Data → List ℕ → ℤ
stop_named ds name = elim (place_named ds name) [ None ↦ pos 0 | Some i ↦ slice_index_or (map stop_in ds) i (pos 0) ]

-- both stops are times, or both are event numbers
abbrev pub is_alike : Bool → Bool → Bool
is_alike true timed = timed
is_alike false timed = not timed

-- a stop isn't below the parent's stop of the same kind
abbrev pub is_from_parent : List Data → Data → Bool
is_from_parent ds d =
    not (is_alike (timed_named ds (parent_in d)) (is_timed d)) || int_le (stop_named ds (parent_in d)) (stop_in d)

-- the kind of i is the kind of each earlier branch with the same parent
abbrev pub is_unlike : Data → Data → Bool
is_unlike d a = bytes_eq (parent_in a) (parent_in d) && not (is_alike (is_timed a) (is_timed d))

abbrev pub has_kind : List Data → Data → Bool
has_kind before d = not (list_any (is_unlike d) before)

abbrev pub has_stop : Members → List Data → List Data → Data → Bool
has_stop t ds before d = is_stop t d && is_from_parent ds d && has_kind before d

abbrev pub stops_broken : Members → Option ℕ
stops_broken t = first_failing_beside (has_stop t (branch_entries t)) (branch_entries t)

-- the first edit that breaks a rule, where the edits of the first of these branches stand from a place on
abbrev pub first_edit : (List Data → Option ℕ) → ℕ → List Data → Option ℕ
first_edit broken place [] = None
first_edit broken place (d ∷ ds) =
    option_or (option_map (λ at. place + at) (broken (edits_in d))) (first_edit broken (place + 16) ds)

-- at most 16 edits; each has its keys with their types and no other, kind is known
abbrev pub forms_broken : List Data → Option ℕ
forms_broken edits = if nat_le (length edits) 16 then first_failing (has_form edit_form) edits else Some 0

abbrev pub edit_keys_broken : Members → Option ℕ
edit_keys_broken t = first_edit forms_broken 0 (branch_entries t)

-- (branches + 1) * events is at most 4,000,000
abbrev pub work_broken : Members → Option ℕ
work_broken t = broken_unless (nat_le ((length (branch_entries t) + 1) * events_of t) 4000000) 0
