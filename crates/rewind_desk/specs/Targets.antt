-- The branches and events that the marks of a rewind name.
use Rattle.std.specs.Prelude.{ℕ, ◌+◌, nat_eq, nat_lt, Bool, List, [], ◌∷◌, ◌++◌, Option, None, Some, if◌then◌else◌, option_map, slice_index_or}
use Rattle.std.specs.List.{position_from}
use Rattle.std.specs.Cmp.Lexicographic.{pointwise}
use Rattle.command_words.specs.declared.mark.Mark.{Mark}
use Rattle.branch_tree.specs.declared.branch.Branch.{Branch}
use Rattle.rewind_desk.specs.declared.target.Target.{Target}
use Rattle.rewind_desk.specs.declared.aimed.Aimed.{Aimed}
use Rattle.rewind_desk.specs.declared.aimed.Aimed.TheVariants.{At, NoBranch}
use Rattle.rewind_desk.specs.declared.past.Past.{Past}

-- a branch has this name, byte for byte
abbrev pub has_name : List ℕ → Branch → Bool
has_name name b = pointwise nat_eq b.name name

-- the number of the first branch of a name
abbrev pub branch_of : List Branch → List ℕ → Option ℕ
branch_of branches name = position_from (has_name name) 0 branches

-- the target of a mark, where a branch has its name
abbrev pub target_of : List Branch → Mark → Option Target
target_of branches m = option_map (λ b. record { branch = b; event = m.event }) (branch_of branches m.branch)

-- targets before those of the marks behind them
abbrev pub behind_targets : List Target → Aimed → Aimed
behind_targets before (At ts) = At (before ++ ts)
behind_targets before (NoBranch i) = NoBranch i

-- a mark at this index, and what the marks behind it come to
abbrev pub aimed_next : ℕ → Option Target → Aimed → Aimed
aimed_next i None behind = NoBranch i
aimed_next i (Some t) behind = behind_targets (t ∷ []) behind

-- the targets of marks from this index on, or the first mark without one
abbrev pub aimed_from : List Branch → ℕ → List Mark → Aimed
aimed_from branches i [] = At []
aimed_from branches i (m ∷ ms) = aimed_next i (target_of branches m) (aimed_from branches (i + 1) ms)

-- the targets of marks, or the first mark whose branch isn't there
abbrev pub aimed_at : List Branch → List Mark → Aimed
aimed_at branches marks = aimed_from branches 0 marks

-- the number of the last event of a target's branch
abbrev pub last_event_for : List ℕ → Target → ℕ
last_event_for lasts t = slice_index_or lasts t.branch 0

-- the first target from this index on whose event is past its branch's last
abbrev pub past_from : List ℕ → ℕ → List Target → Option Past
past_from lasts i [] = None
past_from lasts i (t ∷ ts) =
    if nat_lt (last_event_for lasts t) t.event then Some (record { index = i; last = last_event_for lasts t })
    else past_from lasts (i + 1) ts

abbrev pub past_of : List ℕ → List Target → Option Past
past_of lasts targets = past_from lasts 0 targets
