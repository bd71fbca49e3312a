-- What holds of each branch where the rules of branches hold.
use Rattle.std.proofs.Common.{◌≡◌, ◌≤◌, ◌++◌, ℕ, true, List, [], ◌∷◌, All, Ok, Err}
use Rattle.std.specs.Prelude.{not, Result, IfOk}
use Rattle.std.proofs.lemmas.Bool.{and_parts}
use Rattle.std.proofs.lemmas.List.Elements.{All-nil, All-cons}
use Rattle.toml.specs.Data.{Data, Members}
use Rattle.branch_tree.specs.Names.{is_name}
use Rattle.study_file.specs.Tables.{is_named}
use Rattle.study_rules.specs.Entries.{branch_entries, name_in}
use Rattle.study_rules.specs.BranchRules.{names_of, has_new_name, is_stop, has_stop, events_of}
use Rattle.study_rules.specs.Branches.{IsHeaded}
use Rattle.study_rules.proofs.Beside.{AllBeside, Each, all-beside}
use Rattle.study_rules.proofs.Held.{AreShaped}
use Rattle.study_rules.proofs.StopRanges.{each-stop, few-stop}

each-headed : (t : Members) (before ds : List Data) → AllBeside has_new_name before ds → Each (λ d. is_stop t d ≡ true) ds → events_of t ≤ 1000000
    → All IsHeaded ds
each-headed t before [] names stops few = All-nil IsHeaded
each-headed t before (d ∷ ds) names stops few =
    All-cons IsHeaded d ds
    (record {
      name = (and_parts (is_name (name_in d)) (not (is_named (names_of before) (name_in d))) names.0).0;
      stop = few-stop t d 1000000 few stops.0;
    })
    (each-headed t (before ++ d ∷ []) ds names.1 stops.1 few)

pub all-headed : (t : Members) → AreShaped t → events_of t ≤ 1000000 → All IsHeaded (branch_entries t)
all-headed t shaped few =
    let ds = branch_entries t in
    each-headed t [] ds (all-beside has_new_name ds shaped.names) (each-stop t ds [] ds (all-beside (has_stop t ds) ds shaped.stops)) few

pub if-ok : {A E : Type 0} (r : Result A E) (P Q : A → Type 0) → ((a : A) → P a → Q a) → IfOk r P → IfOk r Q
if-ok (Ok a) P Q f h = f a h
if-ok (Err e) P Q f h = tt

pub if-both : {A E : Type 0} (r : Result A E) (P Q R : A → Type 0) → ((a : A) → P a → Q a → R a) → IfOk r P → IfOk r Q → IfOk r R
if-both (Ok a) P Q R f h k = f a h k
if-both (Err e) P Q R f h k = tt
