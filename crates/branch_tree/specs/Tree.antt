-- Which branches make a tree.
use Rattle.std.specs.Prelude.{◌≡◌, ◌<◌, ℕ, ◌+◌, ◌*◌, ◌&&◌, Bool, not, nat_lt, nat_le, nat_eq, ◌==◌, if◌then◌else◌, List, [], ◌∷◌, ◌++◌, Option, None, Some, option_map, length}
use Rattle.std.specs.List.{list_any}
use Rattle.std.specs.Cmp.Lexicographic.{pointwise}
use Rattle.branch_tree.specs.declared.branch.Branch.{Branch}
use Rattle.branch_tree.specs.declared.error.PlanError.{PlanError}
use Rattle.branch_tree.specs.declared.error.PlanError.TheVariants.{ParentNotBefore, StopOutOfRange, TooManyBranches, NameTwice, TooMuchWork, StopsMixed}
use Rattle.branch_tree.specs.declared.stop.Stop.TheVariants.{At}
use Rattle.branch_tree.specs.Stops.{same_kind, is_within, no_earlier}
use Rattle.branch_tree.specs.Plan.{branch_at, parent_at, stop_at}

-- The first branch is the root: it is its own parent, and it changes nothing at event 0.
pub record IsRooted (branches : List Branch) : Type 0 where
  pub some : 0 < length branches
  pub parent : parent_at branches 0 ≡ 0
  pub stop : stop_at branches 0 ≡ At 0
  pub edits : (branch_at branches 0).edits ≡ []

-- the first branch from this number on whose parent isn't an earlier branch
abbrev pub late_from : ℕ → List Branch → Option ℕ
late_from k [] = None
late_from k (b ∷ bs) = if nat_lt b.parent k then late_from (k + 1) bs else Some k

-- the first branch after the root whose parent isn't an earlier branch
abbrev pub late_parent : List Branch → Option ℕ
late_parent [] = None
late_parent (root ∷ bs) = late_from 1 bs

-- a branch leaves its parent within the limit of events, and at no lesser stop than the parent's own of the same kind
abbrev pub is_in_range : ℕ → List Branch → Branch → Bool
is_in_range limit branches b = is_within limit b.stop && no_earlier (stop_at branches b.parent) b.stop

-- the first branch from this number on with a stop out of range
abbrev pub out_from : ℕ → List Branch → ℕ → List Branch → Option ℕ
out_from limit branches k [] = None
out_from limit branches k (b ∷ bs) =
    if is_in_range limit branches b then out_from limit branches (k + 1) bs else Some k

-- the first branch with a stop out of range
abbrev pub out_of_range : ℕ → List Branch → Option ℕ
out_of_range limit branches = out_from limit branches 0 branches

-- two branches have one name
abbrev pub same_name : Branch → Branch → Bool
same_name a b = pointwise nat_eq a.name b.name

-- the first branch from this number on that has the name of one before it
abbrev pub repeated_from : List Branch → ℕ → List Branch → Option ℕ
repeated_from before k [] = None
repeated_from before k (b ∷ bs) =
    if list_any (λ (a : Branch). same_name a b) before then Some k else repeated_from (before ++ b ∷ []) (k + 1) bs

-- the first branch that has the name of an earlier one
abbrev pub repeated_name : List Branch → Option ℕ
repeated_name branches = repeated_from [] 0 branches

-- two branches leave one parent at stops of two kinds
abbrev pub mixes : Branch → Branch → Bool
mixes a b = a.parent == b.parent && not (same_kind a.stop b.stop)

-- the first branch from this number on whose kind of stop isn't that of one before it with the same parent
abbrev pub mixed_from : List Branch → ℕ → List Branch → Option ℕ
mixed_from before k [] = None
mixed_from before k (b ∷ bs) =
    if list_any (λ (a : Branch). mixes a b) before then Some k else mixed_from (before ++ b ∷ []) (k + 1) bs

-- the first branch whose kind of stop isn't that of an earlier branch with the same parent; the root has no parent
abbrev pub mixed_stop : List Branch → Option ℕ
mixed_stop [] = None
mixed_stop (root ∷ bs) = mixed_from [] 1 bs

-- the first refusal that there is
abbrev pub earlier_refusal : Option PlanError → Option PlanError → Option PlanError
earlier_refusal (Some e) others = Some e
earlier_refusal None others = others

-- more than 256 branches
abbrev pub too_many : ℕ → Option PlanError
too_many n = if nat_le n 256 then None else Some (TooManyBranches n)

-- more than 4,000,000 events of all branches
abbrev pub too_much : ℕ → ℕ → Option PlanError
too_much n limit = if nat_le (n * limit) 4000000 then None else Some (TooMuchWork n limit)

-- why these branches are no tree, where runs have at most so many events
abbrev pub plan_refusal : List Branch → ℕ → Option PlanError
plan_refusal branches limit = earlier_refusal (option_map ParentNotBefore (late_parent branches))
    (earlier_refusal (option_map StopOutOfRange (out_of_range limit branches))
    (earlier_refusal (too_many (length branches))
    (earlier_refusal (option_map NameTwice (repeated_name branches))
    (earlier_refusal (too_much (length branches) limit) (option_map StopsMixed (mixed_stop branches))))))
