-- The acts that the tree refuses.
use Rattle.std.specs.Prelude.{ℕ, ◌+◌, ◌==◌, ◌||◌, nat_lt, Bool, List, [], ◌∷◌, length, Option, None, Some, is_some, if◌then◌else◌}
use Rattle.session_desk.specs.Session.{SessionTold}
use Rattle.session_desk.specs.Answers.{fork_refusal}
use Rattle.session_desk.specs.declared.act.Act.{Act}
use Rattle.session_desk.specs.declared.act.Act.TheVariants.{Fork, Undo, Edit as Edited, Rewind, Close, Values}
use Rattle.session_desk.specs.Acting.{lacks, number_in, forked, after_act}

-- The tree has no branch of the act's name or parent; or the plan refuses the fork; or it is the root that would be undone or
-- edited.
abbrev pub is_refused : SessionTold → Act → Bool
is_refused s (Fork name parent at edits) = lacks s parent || is_some (fork_refusal s (forked s name parent at edits))
is_refused s Undo = nat_lt (length s.branches) 2
is_refused s (Edited name edits) = lacks s name || (number_in s name == 0)
is_refused s (Rewind name event) = lacks s name
is_refused s (Close name) = lacks s name
is_refused s (Values name) = lacks s name

-- the first act, from this number on, that the tree refuses as it then stands
abbrev pub refused_from : ℕ → SessionTold → List Act → Option ℕ
refused_from i s [] = None
refused_from i s (a ∷ acts) = if is_refused s a then Some i else refused_from (i + 1) (after_act s a) acts

-- the first act that is refused, before anything is simulated
abbrev pub act_refused : SessionTold → List Act → Option ℕ
act_refused s acts = refused_from 0 s acts
