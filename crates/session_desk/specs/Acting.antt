-- The tree after acts of a script, whose branches are told by their names in the tree as it then stands.
use Rattle.std.specs.Prelude.{ℕ, List, [], ◌∷◌, Bool, is_some, not, unwrap_or}
use Rattle.market_rules.specs.declared.edit.Edit.{Edit}
use Rattle.branch_tree.specs.declared.branch.Branch.{Branch}
use Rattle.branch_tree.specs.declared.stop.Stop.TheVariants.{At}
use Rattle.rewind_desk.specs.Targets.{branch_of}
use Rattle.session_desk.specs.Session.{SessionTold}
use Rattle.session_desk.specs.TreeActs as desk
use Rattle.session_desk.specs.declared.act.Act.{Act}
use Rattle.session_desk.specs.declared.act.Act.TheVariants.{Fork, Undo, Edit as Edited, Rewind, Close, Values}

-- no branch of the tree has this name
abbrev pub lacks : SessionTold → List ℕ → Bool
lacks s name = not (is_some (branch_of s.branches name))

-- the number of the branch of a name
abbrev pub number_in : SessionTold → List ℕ → ℕ
number_in s name = unwrap_or (branch_of s.branches name) 0

-- the branch that a fork makes of the branch of a name
abbrev pub forked : SessionTold → List ℕ → List ℕ → ℕ → List Edit → Branch
forked s name parent at edits = record { name = name; parent = number_in s parent; stop = At at; edits = edits }

-- The session after an act. A question changes nothing.
abbrev pub after_act : SessionTold → Act → SessionTold
after_act s (Fork name parent at edits) = desk.acted s (desk.fork (forked s name parent at edits))
after_act s Undo = desk.acted s desk.undo
after_act s (Edited name edits) = desk.acted s (desk.edit (number_in s name) edits)
after_act s (Rewind name event) = s
after_act s (Close name) = s
after_act s (Values name) = s

-- the session after acts, one after another
abbrev pub after_all : SessionTold → List Act → SessionTold
after_all s [] = s
after_all s (a ∷ acts) = after_all (after_act s a) acts
