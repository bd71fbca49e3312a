-- Room in columns.
use Rattle.std.proofs.Common.{ℕ, ◌≤◌, arith}
use Rattle.market_types.specs.declared.feed.Feed.{Feed}
use Rattle.market_types.specs.Room.{Room}
use Rattle.packed_entries.specs.declared.columns.Columns.{Columns}
use Rattle.packed_entries.specs.Told.{HasRoom}

-- who has room for so many has room for fewer
pub fewer : (n m : ℕ) (c : Columns) → m ≤ n → HasRoom n c → HasRoom m c
fewer n m c le h = record {
  enters = omega (arith, le, h.enters);
  cancels = omega (arith, le, h.cancels);
  accepted = omega (arith, le, h.accepted);
  shorts = omega (arith, le, h.shorts);
  quotes = omega (arith, le, h.quotes);
  extras = omega (arith, le, h.extras);
  edits = omega (arith, le, h.edits);
}

-- each has room for none
pub for_none : (n : ℕ) (c : Columns) → n ≤ 0 → HasRoom n c
for_none n c le = record {
  enters = omega (arith, le);
  cancels = omega (arith, le);
  accepted = omega (arith, le);
  shorts = omega (arith, le);
  quotes = omega (arith, le);
  extras = omega (arith, le);
  edits = omega (arith, le);
}

-- the room of the feed's column is counted apart
pub but_feed : (n : ℕ) (c : Columns) (feed : Room Feed) → HasRoom n c → (let d : Columns = record c { feed = feed } in HasRoom n d)
but_feed n c feed h = record {
  enters = h.enters;
  cancels = h.cancels;
  accepted = h.accepted;
  shorts = h.shorts;
  quotes = h.quotes;
  extras = h.extras;
  edits = h.edits;
}
