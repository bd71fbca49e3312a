-- Events in parts: what stands before the body, the body, and the feed. Messages of the feed by what they say.
use Rattle.std.specs.Prelude.{ℕ, List}
use Rattle.market_types.specs.declared.message.Body.{Body}
use Rattle.market_types.specs.declared.feed.Feed.{Feed}
use Rattle.market_types.specs.declared.feed.What.{What}
use Rattle.market_types.specs.Told.{EventTold}
use Rattle.wire_fields.specs.Values.{number}
use Rattle.wire_fields.specs.Wire.{spelling}
use Rattle.itch_codec.specs.Frames.{framed}
use Rattle.itch_codec.specs.Messages.{what_wire}
use Rattle.bundle_frames.specs.declared.head.EventHead.{EventHead}

-- an event of this head and this body, with the feed before it and after it
abbrev pub headed : EventHead → Body → List Feed → List Feed → EventTold
headed h body before after = record {
  number = h.number;
  time = h.time;
  seq = h.seq;
  from = h.from;
  to = h.to;
  put_back = h.put_back;
  until = h.until;
  fee = h.fee;
  body = body;
  before = before;
  after = after;
}

-- the frame of a message of the feed that says this, with what another begins with
abbrev pub saying : Feed → What → List ℕ
saying m w = framed (spelling (what_wire (number m.locate) (number m.tracking) (number m.time) w))
