-- All that is told of a reopening.
use Rattle.std.specs.Prelude.{ℕ, ◌+◌, List, [], ◌∷◌, ◌++◌, length, Option, None, Some}
use Rattle.std.specs.List.{flat_map}
use Rattle.market_types.specs.declared.feed.Feed.{Feed}
use Rattle.market_types.specs.declared.feed.What.{What}
use Rattle.market_types.specs.declared.feed.What.TheVariants as what
use Rattle.bundle_frames.specs.Frames.{end_frame, message_frame}
use Rattle.reopen_cross.specs.declared.cross.Cross.{Cross}
use Rattle.reopen_cross.specs.declared.cross.Interest.{Interest}
use Rattle.reopen_cross.specs.declared.cross.Part.{Part}
use Rattle.reopening_desk.specs.Frames.{cross_frame, part_frame}
use Rattle.reopening_desk.specs.declared.whole.Reopening.{Reopening}

-- a message of the feed at the reopening
abbrev pub told : Reopening → What → Feed
told at says = record { locate = at.locate; tracking = 0; time = at.time; what = says }

-- the stock's trading state changes: `Q` takes quotes alone, `T` trades
abbrev pub acting : Reopening → ℕ → Feed
acting at state = told at (what.Trading at.symbol state 32 (32 ∷ 32 ∷ 32 ∷ 32 ∷ []))

-- an order joins the book
abbrev pub add_frame : Reopening → Interest → List ℕ
add_frame at o = message_frame (told at (what.Add o.reference o.side o.left at.symbol o.price))

-- the shares trade at the price, under the number of the next match, in a cross of a halted stock (`H`)
abbrev pub traded : Reopening → Cross → Feed
traded at c = told at (what.Cross c.shares at.symbol c.price (at.matches + 1) 72)

-- the cross, and what each order trades there
abbrev pub trade_frames : Reopening → Option Cross → List Part → List ℕ
trade_frames at None parts = []
trade_frames at (Some c) parts = message_frame (traded at c) ++ flat_map part_frame parts

-- the price with its certificate
abbrev pub price_frames : Option Cross → List ℕ
price_frames None = []
price_frames (Some c) = cross_frame c

-- Quotes alone are taken while orders join the book; where there is a cross, it and what each order trades; trading goes on; the
-- price with its certificate; and how many orders trade.
unfoldable pub reopening_frames : Reopening → List Interest → Option Cross → List Part → List ℕ
reopening_frames at orders cross parts =
    message_frame (acting at 81)
    ++ flat_map (add_frame at) orders
    ++ trade_frames at cross parts
    ++ message_frame (acting at 84)
    ++ price_frames cross
    ++ end_frame (length parts)
