-- The branches that a study's entries say.
use Rattle.std.specs.Prelude.{◌≡◌, ℕ, ◌+◌, ℤ, pos, unsigned_abs, Bool, ◌||◌, true, false, List, [], ◌∷◌, None, Some, map, codes}
use Rattle.std.specs.List.{filter_map}
use Rattle.toml.specs.Data.{Data, Members}
use Rattle.branch_tree.specs.declared.branch.Branch.{Branch}
use Rattle.branch_tree.specs.declared.stop.Stop.{Stop}
use Rattle.branch_tree.specs.declared.stop.Stop.TheVariants.{At, When}
use Rattle.study_rules.specs.Entries.{entry_of, branch_entries, name_in, parent_in, is_timed, stop_in, edits_in}
use Rattle.branch_tree.specs.Names.{is_name}
use Rattle.study_file.specs.Values.{is_between}
use Rattle.study_rules.specs.BranchRules.{place_named}
use Rattle.study_rules.specs.Scope.{Scope, scope_of}
use Rattle.study_rules.specs.EditRules.{edit_in}

abbrev pub root_branch : Branch
root_branch = record { name = codes "root"; parent = 0; stop = At 0; edits = [] }

-- the number of the branch of a name: the root is 0, and the entries follow from 1 on
abbrev pub number_named : List Data → List ℕ → ℕ
number_named ds name = elim (place_named ds name) [ None ↦ 0 | Some i ↦ i + 1 ]

-- a time or an event number as a stop
abbrev pub stop_from : Bool → ℤ → Stop
stop_from true time = When (unsigned_abs time)
stop_from false events = At (unsigned_abs events)

-- where the branch of an entry leaves its parent
abbrev pub stop_of : Data → Stop
stop_of d = stop_from (is_timed d) (stop_in d)

-- what an entry says beside all of them
abbrev pub branch_of : Scope → List Data → Data → Branch
branch_of scope ds d = record {
  name = name_in d;
  parent = number_named ds (parent_in d);
  stop = stop_of d;
  edits = filter_map (λ e. edit_in scope (entry_of e)) (edits_in d);
}

-- the root first, and then each entry's branch in their order
abbrev pub branches_of : Members → List Branch
branches_of t = root_branch ∷ map (branch_of (scope_of t) (branch_entries t)) (branch_entries t)

-- the name of a branch is one, and its stop is a time or an event number of at most 1,000,000
pub record IsHeaded (d : Data) : Type 0 where
  pub name : is_name (name_in d) ≡ true
  pub stop : (is_timed d || is_between (pos 0) (pos 1000000) (stop_in d)) ≡ true
