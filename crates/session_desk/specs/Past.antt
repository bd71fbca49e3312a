-- Rewinds past their branch's last event.
use Rattle.std.specs.Prelude.{ℕ, ◌+◌, nat_lt, List, [], ◌∷◌, Option, None, Some, if◌then◌else◌}
use Rattle.session_desk.specs.Session.{SessionTold, last_event_in}
use Rattle.session_desk.specs.declared.act.Act.{Act}
use Rattle.session_desk.specs.declared.act.Act.TheVariants.{Fork, Undo, Edit as Edited, Rewind, Close, Values}
use Rattle.session_desk.specs.declared.end.PastAct.{PastAct}
use Rattle.session_desk.specs.Acting.{number_in, after_act}

-- this last event, where an event is past it
abbrev pub last_before : ℕ → ℕ → Option ℕ
last_before last event = if nat_lt last event then Some last else None

-- the last event of the full run of a rewind's branch, where the rewind is past it
abbrev pub past_last : SessionTold → Act → Option ℕ
past_last s (Fork name parent at edits) = None
past_last s Undo = None
past_last s (Edited name edits) = None
past_last s (Rewind name event) = last_before (last_event_in s (number_in s name)) event
past_last s (Close name) = None
past_last s (Values name) = None

-- an act that is past a last event comes before those behind it
abbrev pub past_or : ℕ → Option ℕ → Option PastAct → Option PastAct
past_or i None behind = behind
past_or i (Some last) behind = Some (record { act = i; last = last })

-- the first rewind, from this number on, past the last event of its branch in the tree as it then stands
abbrev pub past_from : ℕ → SessionTold → List Act → Option PastAct
past_from i s [] = None
past_from i s (a ∷ acts) = past_or i (past_last s a) (past_from (i + 1) (after_act s a) acts)

-- the first of all
abbrev pub past_act : SessionTold → List Act → Option PastAct
past_act s acts = past_from 0 s acts
