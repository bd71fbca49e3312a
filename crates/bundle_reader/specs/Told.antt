-- A bundle as plain data, and what was read of one.
use Rattle.std.specs.Prelude.{ℕ, List, map}
use Rattle.market_types.specs.declared.feed.Feed.{Feed}
use Rattle.market_types.specs.Told.{EntryTold, EventTold, EditTold, event_told, edit_told}
use Rattle.bundle_frames.specs.declared.closing.Closing.{Closing}
use Rattle.bundle_reader.specs.declared.frame.HeaderFrame.{HeaderFrame}
use Rattle.bundle_reader.specs.declared.bundle.Told.{Told}
use Rattle.bundle_reader.specs.declared.bundle.Bundle.{Bundle}
use Rattle.bundle_reader.specs.declared.entries.Last.{Last}
use Rattle.bundle_reader.specs.declared.entries.Last.TheVariants as last
use Rattle.bundle_reader.specs.declared.reading.Whole.{Whole}
use Rattle.bundle_reader.specs.declared.reading.Begun.{Begun}
use Rattle.bundle_reader.specs.declared.reading.Reading.{Reading}
use Rattle.bundle_reader.specs.declared.reading.Reading.TheVariants as reading

-- A branch as a bundle tells it: its name, its parent's number and its stop, the feed of the opening, its entries, the
-- message that ends its feed, and its closing.
pub record BranchTold : Type 0 where
  pub name : List ℕ
  pub parent : ℕ
  pub stop : ℕ
  pub opening : List Feed
  pub entries : List EntryTold
  pub ended : Feed
  pub closing : Closing

-- a bundle: how many agents with the exchange and how many stocks there are, and the branches in order
pub record BundleTold : Type 0 where
  pub agents : ℕ
  pub stocks : ℕ
  pub branches : List BranchTold

-- A branch up to its entries.
pub record BegunTold : Type 0 where
  pub name : List ℕ
  pub parent : ℕ
  pub stop : ℕ
  pub opening : List Feed

-- What the next message of the feed may belong to: the last event, the last edit, or, apart from both, the event that is
-- still to come, of which these trading actions were read.
pub data LastTold : Type 0 where
  apart : List Feed → LastTold
  event : EventTold → LastTold
  edit : EditTold → LastTold

-- The header, and the branches that were read whole.
pub record WholeTold : Type 0 where
  pub header : HeaderFrame
  pub branches : List BranchTold

-- How far a bundle was read: nothing of it; all branches that were begun; of one more branch a part of its opening, its
-- entries, the message that ends them, a part of its closing; or all.
pub data ReadingTold : Type 0 where
  start : ReadingTold
  between : WholeTold → ReadingTold
  opening : WholeTold → BegunTold → ReadingTold
  entries : WholeTold → BegunTold → List EntryTold → LastTold → ReadingTold
  ended : WholeTold → BegunTold → List EntryTold → Feed → ReadingTold
  closing : WholeTold → BegunTold → List EntryTold → Feed → Closing → ReadingTold
  end : BundleTold → ReadingTold

abbrev pub branch_told : Told → BranchTold
branch_told t = record {
  name = t.name;
  parent = t.parent;
  stop = t.stop;
  opening = t.opening.list;
  entries = t.entries.list;
  ended = t.ended;
  closing = t.closing;
}

abbrev pub bundle_told : Bundle → BundleTold
bundle_told b = record { agents = b.agents; stocks = b.stocks; branches = map branch_told b.branches }

abbrev pub last_told : Last → LastTold
last_told (last.Apart before) = apart before.list
last_told (last.Event r) = event (event_told r)
last_told (last.Edit m) = edit (edit_told m)

abbrev pub begun_told : Begun → BegunTold
begun_told b = record { name = b.name; parent = b.parent; stop = b.stop; opening = b.opening.list }

abbrev pub whole_told : Whole → WholeTold
whole_told w = record { header = w.header; branches = map branch_told w.branches }

abbrev pub reading_told : Reading → ReadingTold
reading_told reading.Start = start
reading_told (reading.Between w) = between (whole_told w)
reading_told (reading.Opening w b) = opening (whole_told w) (begun_told b)
reading_told (reading.Entries w b es l) = entries (whole_told w) (begun_told b) es.list (last_told l)
reading_told (reading.Ended w b es m) = ended (whole_told w) (begun_told b) es.list m
reading_told (reading.Closing w b es m c) = closing (whole_told w) (begun_told b) es.list m c
reading_told (reading.End b) = end (bundle_told b)
