-- The rules of branches and the branches of a study, for worked examples.
use Rattle.std.specs.Prelude.{ℕ, Bool, pos, List, [], ◌∷◌, Option, replicate, codes}
use Rattle.toml.specs.Data.{Data, Members, no_members, member, string, integer, table}
use Rattle.branch_tree.specs.declared.branch.Branch.{Branch}
use Rattle.branch_tree.specs.declared.stop.Stop.TheVariants.{At, When}
use Rattle.market_rules.specs.declared.edit.Edit.TheVariants.{Latency, Halt}
use Rattle.study_market.specs.declared.early_refusal.Refusal.{Refusal}
use Rattle.study_market.specs.FirstBroken.{first_of_rules}
use Rattle.study_rules.specs.BranchRules.{first_no_branch}
use Rattle.study_rules.specs.Branches.{root_branch}
use Rattle.study_rules.specs.FirstBroken.{branch_rules}

abbrev pub branches_broken : Members → Option Refusal
branches_broken t = first_of_rules branch_rules t

-- a branch of the root that slows its messages, and one of that branch which halts a stock
abbrev pub slow_and_halted : List Branch
slow_and_halted =
    root_branch
    ∷ record { name = codes "x"; parent = 0; stop = At 2; edits = Latency 0 0 50 0 ∷ [] }
    ∷ record { name = codes "y"; parent = 1; stop = At 3; edits = Halt 0 ∷ [] }
    ∷ []

-- the same, where the first leaves the root at a time
abbrev pub slow_from_a_time : List Branch
slow_from_a_time =
    root_branch
    ∷ record { name = codes "x"; parent = 0; stop = When 1004; edits = Latency 0 0 50 0 ∷ [] }
    ∷ record { name = codes "y"; parent = 1; stop = At 3; edits = Halt 0 ∷ [] }
    ∷ []

-- an entry that is a branch in version 1 and in version 2
abbrev pub any_branch : Data
any_branch =
    table (member (codes "at") (integer (pos 2)) (member (codes "name") (string (codes "x")) (member (codes "parent") (string (codes "root")) no_members)))

-- the place at which so many of them break the rule of keys
abbrev pub place_of_too_many : Bool → ℕ → Option ℕ
place_of_too_many times count = first_no_branch times 0 (replicate count any_branch)
