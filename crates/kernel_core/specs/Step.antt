-- One event of the kernel.
use Rattle.std.specs.Prelude.{◌≡◌, ◌≤◌, ℕ, ◌+◌, pos, ◌==◌, true, false, nat_lt, if◌then◌else◌, List, [], length, Option, Some, None, option_map, slice_index, slice_set, is_some}
use Rattle.market_types.specs.declared.message.Message.{Message}
use Rattle.market_types.specs.declared.entry.End.{End}
use Rattle.market_types.specs.declared.entry.End.TheVariants.{Quiet, Closed, EventLimit, QueueFull}
use Rattle.market_types.specs.declared.feed.Feed.{Feed}
use Rattle.market_types.specs.Told.{EventTold}
use Rattle.latency_model.specs.Tables.{group_count}
use Rattle.event_queue.specs.Waiting.{least}
use Rattle.market_floor.specs.declared.opening.Opening.{Opening}
use Rattle.market_floor.specs.Opening.{IsOpening}
use Rattle.kernel_core.specs.Post.{Post, put_back as back_in_post, taken}
use Rattle.kernel_core.specs.Send.{all_sent}
use Rattle.market_floor.specs.Ruled.{applied_by, ruled}
use Rattle.market_floor.specs.Reaction.{Reaction, reaction}
use Rattle.kernel_core.specs.declared.stepped.Stepped.{Stepped}
use Rattle.kernel_core.specs.declared.stepped.Stepped.TheVariants.{Event, Ended}
use Rattle.kernel_core.specs.State.{State}

-- the end that the least waiting message tells
abbrev pub end_of_waiting : Opening → Option Message → Option End
end_of_waiting o None = Some Quiet
end_of_waiting o (Some m) = if nat_lt o.close m.time then Some Closed else None

-- Why there is no next event with this mail and so many events, the first that holds: a message was dropped, so many events stand
-- as may be, no message waits, or the least waiting message is later than the close.
abbrev pub end_with : Opening → Post → ℕ → Option End
end_with o p events =
    if nat_lt 0 p.dropped then Some QueueFull
    else (if events == o.limit then Some EventLimit else end_of_waiting o (least p.waiting))

-- why a state has no next event
abbrev pub end_of : Opening → State → Option End
end_of o s = end_with o s.post s.events

-- A state after an event, and what the event tells.
pub record Happened : Type 0 where
  pub state : State
  pub entry : EventTold

-- A state after the dated changes up to a time, and their feed.
pub record InForce : Type 0 where
  pub state : State
  pub feed : List Feed

-- the dated changes up to a time are made, but for those that were made before
abbrev pub in_force : Opening → State → ℕ → InForce
in_force o s time = record {
  state = record s { applied = applied_by o s.applied time; floor = (ruled o s.applied time s.floor).floor };
  feed = (ruled o s.applied time s.floor).feed;
}

-- The message is put back until its receiver is free, under its old number; the feed of the dated changes comes before.
abbrev pub put_back : State → Message → ℕ → List Feed → Happened
put_back s m until before = record {
  state = record s { time = m.time; events = s.events + 1; post = back_in_post s.post m until };
  entry = record {
    number = s.events + 1;
    time = m.time;
    seq = m.seq;
    from = m.from;
    to = m.to;
    put_back = true;
    until = until;
    fee = pos 0;
    body = m.body;
    before = before;
    after = [];
  };
}

-- The message is delivered: its receiver is busy for its delay, and then what it posts leaves.
abbrev pub delivered_with : Opening → State → Message → Reaction → List Feed → Happened
delivered_with o s m r before = record {
  state = record s {
    time = m.time;
    events = s.events + 1;
    post = all_sent o s.groups m.to (m.time + r.delay) (taken s.post m) r.postings;
    own = slice_set s.own m.to (m.time + r.delay);
    floor = r.floor;
  };
  entry = record {
    number = s.events + 1;
    time = m.time;
    seq = m.seq;
    from = m.from;
    to = m.to;
    put_back = false;
    until = m.time + r.delay;
    fee = r.fee;
    body = m.body;
    before = before;
    after = r.feed;
  };
}

-- the event of a message whose receiver is busy until later
abbrev pub event_back : Opening → State → Message → ℕ → Happened
event_back o s m until = put_back (in_force o s m.time).state m until (in_force o s m.time).feed

-- the event of a message that is delivered
abbrev pub event_delivered : Opening → State → Message → Happened
event_delivered o s m =
    delivered_with o (in_force o s m.time).state m (reaction o (in_force o s m.time).state.floor m) (in_force o s m.time).feed

-- The event of a message. The dated changes up to its time come first; then it is put back where its receiver is still busy
-- at its time, and else delivered.
unfoldable pub event_of : Opening → State → Message → Happened
event_of o s m =
    if nat_lt m.time (slice_index s.own m.to) then event_back o s m (slice_index s.own m.to) else event_delivered o s m

-- The next event is that of the least waiting message; an ended state has none.
abbrev pub step_of : Opening → State → Option Happened
step_of o s = if is_some (end_of o s) then None else option_map (event_of o s) (least s.post.waiting)

-- what a step answers: the number of its event, or why there is none
abbrev pub answer_by : State → Option End → Stepped
answer_by s None = Event (s.events + 1)
answer_by s (Some e) = Ended e

-- by how many an answer raises the count of events
abbrev pub raised : Stepped → ℕ
raised (Event n) = 1
raised (Ended e) = 0

-- An opening fits a state: it is in its ranges; it has as many stocks, traders and groups; it has at least as many dated
-- changes as were applied; it starts no later than the state's time; and its limit is at least the count of events.
pub record Fits (o : Opening) (s : State) : Type 0 where
  pub opening : IsOpening o
  pub stocks : length o.stocks ≡ length s.floor.exchange.stocks
  pub traders : length o.traders ≡ length s.floor.parties
  pub groups : group_count o.groups ≡ group_count s.groups
  pub dated : s.applied ≤ length o.dated
  pub start : o.start ≤ s.time
  pub limit : s.events ≤ o.limit
