-- The act that a table of a script says.
use Rattle.std.specs.Prelude.{ℕ, Bool, List, Option, None, Some, is_some, option_map, if◌then◌else◌, codes}
use Rattle.toml.specs.Data.{Members}
use Rattle.market_rules.specs.declared.edit.Edit.{Edit}
use Rattle.branch_tree.specs.Names.{name_of, is_name}
use Rattle.study_file.specs.Keys.{has_form}
use Rattle.study_file.specs.Values.{string_at, list_at}
use Rattle.study_market.specs.ChangeRules.{is_kind}
use Rattle.study_rules.specs.Scope.{Scope}
use Rattle.study_rules.specs.EditRules.{◌>>=◌, natural_in, edit_list_in}
use Rattle.session_desk.specs.Forms.{act_form}
use Rattle.session_desk.specs.declared.act.Act.{Act}
use Rattle.session_desk.specs.declared.act.Act.TheVariants as act

-- the name of a branch at a key, of 1 to 32 bytes
abbrev pub name_in : List ℕ → Members → Option (List ℕ)
name_in key t = name_of (string_at key t)

-- the name of a new branch: 1 to 32 bytes of a to z, 0 to 9, `_`, `-`
abbrev pub new_name_in : Members → Option (List ℕ)
new_name_in t = if is_name (string_at (codes "name") t) then name_in (codes "name") t else None

-- an event number at a key
abbrev pub event_in : List ℕ → Members → Option ℕ
event_in key t = natural_in 0 9999999 key t

-- the edits of an act, where they keep the rules of a branch's edits
abbrev pub edits_in : Scope → Members → Option (List Edit)
edits_in scope t = edit_list_in scope (list_at (codes "edit") t)

abbrev pub fork_in : Scope → Members → Option Act
fork_in scope t = do
  name ← new_name_in t
  parent ← name_in (codes "parent") t
  at ← event_in (codes "at") t
  edits ← edits_in scope t
  Some (act.Fork name parent at edits)

abbrev pub edit_in : Scope → Members → Option Act
edit_in scope t = do
  name ← name_in (codes "name") t
  edits ← edits_in scope t
  Some (act.Edit name edits)

abbrev pub rewind_in : Members → Option Act
rewind_in t = do
  name ← name_in (codes "name") t
  event ← event_in (codes "event") t
  Some (act.Rewind name event)

abbrev pub close_in : Members → Option Act
close_in t = option_map act.Close (name_in (codes "name") t)

abbrev pub values_in : Members → Option Act
values_in t = option_map act.Values (name_in (codes "name") t)

-- the act that a table says which has the keys of its kind
abbrev pub act_of_kind : Scope → Members → Option Act
act_of_kind scope t =
    if is_kind (codes "fork") t then fork_in scope t
    else if is_kind (codes "undo") t then Some act.Undo
    else if is_kind (codes "edit") t then edit_in scope t
    else if is_kind (codes "rewind") t then rewind_in t
    else if is_kind (codes "close") t then close_in t
    else if is_kind (codes "values") t then values_in t
    else None

-- The act that a table says. There is none where it hasn't the keys of its kind with their types and no other, where `at` or
-- `event` isn't 0 to 9,999,999, a fork's name has another byte than a to z, 0 to 9, `_` and `-`, a name has no or more than 32
-- bytes, or the edits break a rule of a branch's edits.
abbrev pub act_in : Scope → Members → Option Act
act_in scope t = if has_form act_form t then act_of_kind scope t else None

abbrev pub is_act : Scope → Members → Bool
is_act scope t = is_some (act_in scope t)
