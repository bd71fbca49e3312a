-- What acts do to the tree.
use Rattle.std.specs.Prelude.{ℕ, ◌-◌, false, List, [], ◌∷◌, ◌++◌, length, take, slice_set}
use Rattle.market_rules.specs.declared.edit.Edit.{Edit}
use Rattle.branch_tree.specs.declared.branch.Branch.{Branch}
use Rattle.branch_tree.specs.Plan.{branch_at}
use Rattle.kernel_copy.specs.Courses.{CourseTold}
use Rattle.session_desk.specs.Session.{SessionTold, first_session}

-- a branch becomes the last of the tree, and is none of the study's
abbrev pub with_fork : Branch → SessionTold → SessionTold
with_fork b s = record { course = s.course; branches = s.branches ++ b ∷ []; own = s.own ++ false ∷ [] }

-- the last branch leaves the tree
abbrev pub without_last : SessionTold → SessionTold
without_last s = record {
  course = s.course;
  branches = take (length s.branches - 1) s.branches;
  own = take (length s.branches - 1) s.own;
}

-- a branch with other edits
abbrev pub branch_with : List Edit → Branch → Branch
branch_with es b = record { name = b.name; parent = b.parent; stop = b.stop; edits = es }

-- a branch's edits are replaced, and it is the study's own no more
abbrev pub with_edits : ℕ → List Edit → SessionTold → SessionTold
with_edits b es s = record {
  course = s.course;
  branches = slice_set s.branches b (branch_with es (branch_at s.branches b));
  own = slice_set s.own b false;
}

-- An act: a fork of a branch, the undoing of the last one, or the edit of one by its number.
pub data Act : Type 0 where
  fork : Branch → Act
  undo : Act
  edit : ℕ → List Edit → Act

abbrev pub acted : SessionTold → Act → SessionTold
acted s (fork b) = with_fork b s
acted s undo = without_last s
acted s (edit b es) = with_edits b es s

-- the session after acts, one after another
abbrev pub after_acts : SessionTold → List Act → SessionTold
after_acts s [] = s
after_acts s (act ∷ acts) = after_acts (acted s act) acts

-- the tree that acts leave of a study's
abbrev pub tree_after : CourseTold → List Act → List Branch
tree_after c acts = (after_acts (first_session c) acts).branches
