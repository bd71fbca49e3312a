-- The edits of a branch.
use Rattle.std.specs.Prelude.{◌≡◌, ◌<◌, ◌≤◌, ℕ, ◌+◌, ⊤, true, List, [], ◌∷◌, ◌++◌, length}
use Rattle.market_types.specs.Limits.{last_time, longest_delay}
use Rattle.market_types.specs.Told.{EditTold, edit as edited_entry}
use Rattle.market_rules.specs.declared.edit.Edit.{Edit}
use Rattle.market_rules.specs.declared.edit.Edit.TheVariants.{Latency, Inject}
use Rattle.market_rules.specs.EditRanges.{is_among, is_in_range}
use Rattle.market_rules.specs.Edits.{letter_of}
use Rattle.latency_model.specs.Tables.{Tables, group_count, with_pair}
use Rattle.kernel_core.specs.Post.{Post}
use Rattle.kernel_core.specs.Send.{injected}
use Rattle.market_floor.specs.Edited.{IsParamOf, edited_floor}
use Rattle.kernel_core.specs.State.{State}
use Rattle.kernel_core.specs.Until.{Run}

-- the latency tables after an edit, which hold for what is sent from then on
abbrev pub tables_after : Edit → Tables → Tables
tables_after (Latency from to base jitter) t = with_pair t from to base jitter
tables_after e t = t

-- the mail after an edit at a time: an injected order is due so long afterwards, with no latency
abbrev pub mail_after : ℕ → Edit → Post → Post
mail_after time (Inject agent after message) p = injected agent (time + after) message p
mail_after time e p = p

-- the state after an edit; all but latencies and injected orders is changed on the floor
abbrev pub changed_by : State → Edit → State
changed_by s e = record s {
  post = mail_after s.time e s.post;
  floor = (edited_floor s.time e s.floor).floor;
  groups = tables_after e s.groups;
}

-- the mark of an edit in the trace
abbrev pub mark_of : ℕ → ℕ → Edit → State → EditTold
mark_of branch index e s = record {
  events = s.events;
  time = s.time;
  branch = branch;
  index = index;
  letter = letter_of e;
  feed = (edited_floor s.time e s.floor).feed;
}

-- What an edit needs of a state: its stock, trader and groups exist, its numbers are in their ranges, and a parameter belongs
-- to the trader's kind.
pub record IsEditOf (s : State) (e : Edit) : Type 0 where
  pub among : is_among (length s.floor.exchange.stocks) (length s.floor.parties) (group_count s.groups) e ≡ true
  pub range : is_in_range e ≡ true
  pub parameter : IsParamOf s.floor e

-- an edit of latencies is of groups that there are, and keeps to the longest delay
abbrev pub IsTableEdit : ℕ → Edit → Type 0
IsTableEdit groups (Latency from to base jitter) = (from < groups) × (to < groups) × (base ≤ longest_delay)
IsTableEdit groups e = ⊤

-- an order is injected for a trader that there is, and within a day
abbrev pub IsMailEdit : ℕ → Edit → Type 0
IsMailEdit traders (Inject agent after message) = (1 ≤ agent) × (agent ≤ traders) × (after ≤ last_time)
IsMailEdit traders e = ⊤

-- One edit of a branch, which has this index among the branch's edits. Why a state has no next event is asked anew afterwards,
-- so that a message that is due revives a state that was quiet or closed.
unfoldable pub edited_one : ℕ → ℕ → Edit → Run → Run
edited_one branch index e r = record {
  state = changed_by r.state e;
  entries = r.entries ++ edited_entry (mark_of branch index e r.state) ∷ [];
}

-- the edits of a list in order, the first of which has this index
abbrev pub edited_from : ℕ → ℕ → List Edit → Run → Run
edited_from branch index [] r = r
edited_from branch index (e ∷ es) r = edited_from branch (index + 1) es (edited_one branch index e r)

-- all edits of a branch
abbrev pub edited : ℕ → List Edit → Run → Run
edited branch es r = edited_from branch 0 es r
