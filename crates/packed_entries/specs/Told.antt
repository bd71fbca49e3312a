-- What the types of this crate tell.
use Rattle.std.specs.Prelude.{◌≡◌, ◌≤◌, ℕ, List, [], ◌∷◌}
use Rattle.market_types.specs.Told.{EntryTold, EventTold, EditTold, event, edit}
use Rattle.packed_entries.specs.declared.parts.EventParts.{EventParts}
use Rattle.packed_entries.specs.declared.columns.Columns.{Columns}
use Rattle.packed_entries.specs.declared.rest.Rest.{Rest}
use Rattle.packed_entries.specs.declared.walk.Step.{Step}
use Rattle.packed_entries.specs.declared.walk.Step.TheVariants as step
use Rattle.packed_entries.specs.Parts.{Parts}

-- what an event tells by its parts
abbrev pub parts_told : EventParts → EventTold
parts_told p = record {
  number = p.number;
  time = p.time;
  seq = p.seq;
  from = p.from;
  to = p.to;
  put_back = p.put_back;
  until = p.until;
  fee = p.fee;
  body = p.body.now;
  before = p.before.now;
  after = p.after.now;
}

abbrev pub columns_told : Columns → Parts
columns_told c = record {
  enters = c.enters.list;
  cancels = c.cancels.list;
  accepted = c.accepted.list;
  shorts = c.shorts.list;
  quotes = c.quotes.list;
  extras = c.extras.list;
  edits = c.edits.list;
  feed = c.feed.list;
}

-- each column but that of the feed keeps places for so many items
pub record HasRoom (n : ℕ) (c : Columns) : Type 0 where
  pub enters : n ≤ c.enters.spare
  pub cancels : n ≤ c.cancels.spare
  pub accepted : n ≤ c.accepted.spare
  pub shorts : n ≤ c.shorts.spare
  pub quotes : n ≤ c.quotes.spare
  pub extras : n ≤ c.extras.spare
  pub edits : n ≤ c.edits.spare

abbrev pub rest_told : Rest → Parts
rest_told r = record {
  enters = r.enters.now;
  cancels = r.cancels.now;
  accepted = r.accepted.now;
  shorts = r.shorts.now;
  quotes = r.quotes.now;
  extras = r.extras.now;
  edits = r.edits.now;
  feed = r.feed.now;
}

-- A step read an event, an edit, or none: what was left before it, and what is left behind it.
abbrev pub Follows : Step → EventTold → EditTold → List EntryTold → List EntryTold → Type 0
Follows step.Event e d before behind = before ≡ event e ∷ behind
Follows step.Edit e d before behind = before ≡ edit d ∷ behind
Follows step.End e d before behind = (before ≡ []) × (behind ≡ [])
