-- The acts that a script says beside a study's course, or why it says none.
use Rattle.std.specs.Prelude.{ℕ, Bool, ◌&&◌, not, List, [], None, Some, Result, Ok, Err, if◌then◌else◌, length, codes}
use Rattle.std.specs.Int.{is_in_range}
use Rattle.std.specs.List.{list_any, filter_map}
use Rattle.toml.specs.Data.{Data, Members}
use Rattle.branch_tree.specs.declared.branch.Branch.{Branch}
use Rattle.branch_tree.specs.Stops.{is_time}
use Rattle.kernel_copy.specs.Courses.{CourseTold}
use Rattle.study_file.specs.Keys.{has_keys}
use Rattle.study_file.specs.Tables.{table_of}
use Rattle.study_file.specs.Values.{list_at, first_failing}
use Rattle.study_rules.specs.Entries.{entry_of}
use Rattle.study_rules.specs.Scope.{Scope, scope_of_opening}
use Rattle.session_desk.specs.Forms.{script_keys}
use Rattle.session_desk.specs.Acts.{act_in, is_act}
use Rattle.session_desk.specs.declared.act.Act.{Act}
use Rattle.session_desk.specs.declared.act.ScriptError.{ScriptError}
use Rattle.session_desk.specs.declared.act.ScriptError.TheVariants.{NotToml, BadAct}

-- the entries of the acts
abbrev pub act_entries : Members → List Data
act_entries t = list_at (codes "act") t

-- a script has the one key `act`, an array of 1 to 64 tables
abbrev pub is_script : Members → Bool
is_script t = has_keys [] script_keys t && is_in_range 1 64 (length (act_entries t))

-- a branch leaves its parent at a time
abbrev pub forks_by_time : CourseTold → Bool
forks_by_time c = list_any (λ (b : Branch). is_time b.stop) c.plan.branches

-- the acts that entries say in order, or the first entry that says none
abbrev pub acts_of : Scope → List Data → Result (List Act) ScriptError
acts_of scope entries = elim (first_failing (is_act scope) entries) [
  | Some at ↦ Err (BadAct at)
  | None ↦ Ok (filter_map (λ d. act_in scope (entry_of d)) entries)
]

-- the whole is a script, and the study forks by event number alone
abbrev pub is_fit : CourseTold → Members → Bool
is_fit c t = is_script t && not (forks_by_time c)

-- the acts of a table; act 64 is the bad one where the whole is not fit
abbrev pub acts_in : CourseTold → Members → Result (List Act) ScriptError
acts_in c t = if is_fit c t then acts_of (scope_of_opening c.opening) (act_entries t) else Err (BadAct 64)

-- the acts that the bytes of a script say beside a course, or the first bad one
unfoldable pub script_of : CourseTold → List ℕ → Result (List Act) ScriptError
script_of c bytes = elim (table_of bytes) [ None ↦ Err NotToml | Some t ↦ acts_in c t ]
