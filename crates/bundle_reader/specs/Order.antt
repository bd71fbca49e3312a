-- Where a frame may stand: what was read before a frame, and what was read after it.
use Rattle.std.specs.Prelude.{ℕ, ◌+◌, ◌*◌, ◌==◌, nat_lt, nat_le, Bool, true, false, ◌&&◌, ◌||◌, List, [], ◌∷◌, ◌++◌, length, Option, Some, None, if◌then◌else◌}
use Rattle.market_types.specs.declared.feed.Feed.{Feed}
use Rattle.market_types.specs.declared.feed.What.{What}
use Rattle.market_types.specs.declared.feed.What.TheVariants as what
use Rattle.market_types.specs.Told.{EntryTold, EditTold}
use Rattle.market_types.specs.Told as told
use Rattle.bundle_frames.specs.declared.closing.Closing.{Closing}
use Rattle.bundle_frames.specs.declared.closing.ClosingCounts.{ClosingCounts}
use Rattle.bundle_frames.specs.declared.closing.ClosingStock.{ClosingStock}
use Rattle.bundle_frames.specs.declared.closing.ClosingOrder.{ClosingOrder}
use Rattle.bundle_frames.specs.declared.closing.ClosingAgent.{ClosingAgent}
use Rattle.bundle_reader.specs.Frames.{event_with, edit_with}
use Rattle.bundle_reader.specs.declared.frame.Frame.{Frame}
use Rattle.bundle_reader.specs.declared.frame.Frame.TheVariants as frame
use Rattle.bundle_reader.specs.declared.frame.HeaderFrame.{HeaderFrame}
use Rattle.bundle_reader.specs.declared.frame.BranchFrame.{BranchFrame}
use Rattle.bundle_reader.specs.Told.{BranchTold, BundleTold, BegunTold, WholeTold, LastTold, apart, event, edit, ReadingTold, start, between, opening, entries, ended, closing, end}

abbrev pub is_none : {A : Type 0} → List A → Bool
is_none [] = true
is_none (x ∷ xs) = false

-- ---- kinds of messages

abbrev pub is_system : What → Bool
is_system (what.System code) = true
is_system w = false

abbrev pub is_directory : What → Bool
is_directory (what.Directory stock category financial lot lots_only class sub_type authenticity short_sale ipo tier etp leverage inverse) = true
is_directory w = false

abbrev pub is_trading : What → Bool
is_trading (what.Trading stock state reserved reason) = true
is_trading w = false

-- a message on orders: added, executed, cancelled, deleted, or a trade
abbrev pub is_of_orders : What → Bool
is_of_orders (what.Add reference side shares stock price) = true
is_of_orders (what.Executed reference shares match_number) = true
is_of_orders (what.Cancel reference shares) = true
is_of_orders (what.Delete reference) = true
is_of_orders (what.Trade reference side shares stock price match_number) = true
is_of_orders w = false

-- ---- the opening

-- In an opening of so many stocks stands at this place: first a system event, then a directory for each stock, then a
-- trading action for each.
abbrev pub opens : ℕ → ℕ → What → Bool
opens stocks at w = if at == 0 then is_system w else (if nat_le at stocks then is_directory w else is_trading w)

-- a branch with one message more of its opening, and its entries begin behind the last one
abbrev pub opened : WholeTold → BegunTold → ReadingTold
opened w b =
    if length b.opening == 1 + 2 * w.header.stocks
    then entries w b [] (apart [])
    else opening w b

abbrev pub take_opening : WholeTold → BegunTold → Feed → Option ReadingTold
take_opening w b m =
    if opens w.header.stocks (length b.opening) m.what
    then Some (opened w (record b { opening = b.opening ++ m ∷ [] }))
    else None

-- ---- the entries

-- the entries with the last one
abbrev pub all_entries : List EntryTold → LastTold → List EntryTold
all_entries es (apart before) = es
all_entries es (event e) = es ++ told.event e ∷ []
all_entries es (edit d) = es ++ told.edit d ∷ []

-- the trading actions that are the next event's
abbrev pub before_next : LastTold → List Feed
before_next (apart before) = before
before_next (event e) = []
before_next (edit d) = []

-- A trading action belongs to a halt or a resume that it follows at once and with its time.
abbrev pub belongs : EditTold → Feed → Bool
belongs d m = ((d.letter == 104) || (d.letter == 114)) && (is_none d.feed && (m.time == d.time))

-- any other belongs to the next event
abbrev pub take_trading : WholeTold → BegunTold → List EntryTold → LastTold → Feed → ReadingTold
take_trading w b es (apart before) m = entries w b es (apart (before ++ m ∷ []))
take_trading w b es (event e) m = entries w b (es ++ told.event e ∷ []) (apart (m ∷ []))
take_trading w b es (edit d) m =
    if belongs d m
    then entries w b es (edit (record d { feed = m ∷ [] }))
    else entries w b (es ++ told.edit d ∷ []) (apart (m ∷ []))

-- a message on orders belongs to the event that it follows
abbrev pub take_of_orders : WholeTold → BegunTold → List EntryTold → LastTold → Feed → Option ReadingTold
take_of_orders w b es (apart before) m = None
take_of_orders w b es (event e) m = Some (entries w b es (event (record e { after = e.after ++ m ∷ [] })))
take_of_orders w b es (edit d) m = None

-- A system event ends the entries. A directory or a cross stands nowhere among them.
abbrev pub take_message : WholeTold → BegunTold → List EntryTold → LastTold → Feed → Option ReadingTold
take_message w b es l m =
    if is_trading m.what then Some (take_trading w b es l m) else
    (if is_of_orders m.what then take_of_orders w b es l m else
    (if is_system m.what && is_none (before_next l) then Some (ended w b (all_entries es l) m) else None))

abbrev pub take_entry : WholeTold → BegunTold → List EntryTold → LastTold → Frame → Option ReadingTold
take_entry w b es l (frame.Event e) = Some (entries w b (all_entries es l) (event (event_with e (before_next l) [])))
take_entry w b es l (frame.Edit d) =
    if is_none (before_next l) then Some (entries w b (all_entries es l) (edit (edit_with d []))) else None
take_entry w b es l (frame.Message m) = take_message w b es l m
take_entry w b es l f = None

-- ---- the closing

-- the counters, and nothing else yet
abbrev pub counted : ClosingCounts → Closing
counted c = record { counts = c; stocks = []; orders = []; agents = [] }

-- Stocks and agents are numbered from 0, and orders stand between them.
abbrev pub take_stock : ℕ → Closing → ClosingStock → Option Closing
take_stock stocks c s =
    if nat_lt (length c.stocks) stocks && (s.stock == length c.stocks)
    then Some (record c { stocks = c.stocks ++ s ∷ [] })
    else None

abbrev pub take_order : ℕ → Closing → ClosingOrder → Option Closing
take_order stocks c o =
    if (length c.stocks == stocks) && is_none c.agents
    then Some (record c { orders = c.orders ++ o ∷ [] })
    else None

abbrev pub take_agent : ℕ → ℕ → Closing → ClosingAgent → Option Closing
take_agent stocks agents c a =
    if (length c.stocks == stocks) && (nat_lt (length c.agents) agents && (a.agent == length c.agents))
    then Some (record c { agents = c.agents ++ a ∷ [] })
    else None

-- each stock and each agent stands in it
abbrev pub is_closed : HeaderFrame → Closing → Bool
is_closed h c = (length c.stocks == h.stocks) && (length c.agents == h.agents)

abbrev pub branch_of : BegunTold → List EntryTold → Feed → Closing → BranchTold
branch_of b es m c = record {
  name = b.name;
  parent = b.parent;
  stop = b.stop;
  opening = b.opening;
  entries = es;
  ended = m;
  closing = c;
}

-- ---- branches one after another

abbrev pub begun : BranchFrame → BegunTold
begun b = record { name = b.name; parent = b.parent; stop = b.stop; opening = [] }

abbrev pub bundle_of : WholeTold → BundleTold
bundle_of w = record { agents = w.header.agents; stocks = w.header.stocks; branches = w.branches }

-- behind a whole branch: the next branch, with the next number, or the end, with as many branches as the header says
abbrev pub take_next : WholeTold → Frame → Option ReadingTold
take_next w (frame.Branch b) =
    if nat_lt (length w.branches) w.header.branches && (b.branch == length w.branches)
    then Some (opening w (begun b))
    else None
take_next w (frame.End branches) =
    if (length w.branches == w.header.branches) && (branches == w.header.branches)
    then Some (end (bundle_of w))
    else None
take_next w f = None

abbrev pub with_branch : WholeTold → BranchTold → WholeTold
with_branch w b = record w { branches = w.branches ++ b ∷ [] }

-- a part of a closing more
abbrev pub more_closing : WholeTold → BegunTold → List EntryTold → Feed → Option Closing → Option ReadingTold
more_closing w b es m None = None
more_closing w b es m (Some c) = Some (closing w b es m c)

abbrev pub take_closing : WholeTold → BegunTold → List EntryTold → Feed → Closing → Frame → Option ReadingTold
take_closing w b es m c (frame.Stock s) = more_closing w b es m (take_stock w.header.stocks c s)
take_closing w b es m c (frame.Order o) = more_closing w b es m (take_order w.header.stocks c o)
take_closing w b es m c (frame.Agent a) = more_closing w b es m (take_agent w.header.stocks w.header.agents c a)
take_closing w b es m c f = if is_closed w.header c then take_next (with_branch w (branch_of b es m c)) f else None

-- ---- a bundle

abbrev pub take_header : Frame → Option ReadingTold
take_header (frame.Header h) = Some (between (record { header = h; branches = [] }))
take_header f = None

abbrev pub take_first : WholeTold → BegunTold → Frame → Option ReadingTold
take_first w b (frame.Message m) = take_opening w b m
take_first w b f = None

abbrev pub take_counts : WholeTold → BegunTold → List EntryTold → Feed → Frame → Option ReadingTold
take_counts w b es m (frame.Counts c) = Some (closing w b es m (counted c))
take_counts w b es m f = None

-- What was read with one frame more, where the frame may stand there.
unfoldable pub taken : ReadingTold → Frame → Option ReadingTold
taken start f = take_header f
taken (between w) f = take_next w f
taken (opening w b) f = take_first w b f
taken (entries w b es l) f = take_entry w b es l f
taken (ended w b es m) f = take_counts w b es m f
taken (closing w b es m c) f = take_closing w b es m c f
taken (end b) f = None

-- so many stocks there are, where the header was read
abbrev pub stocks_known : ReadingTold → Option ℕ
stocks_known start = None
stocks_known (between w) = Some w.header.stocks
stocks_known (opening w b) = Some w.header.stocks
stocks_known (entries w b es l) = Some w.header.stocks
stocks_known (ended w b es m) = Some w.header.stocks
stocks_known (closing w b es m c) = Some w.header.stocks
stocks_known (end b) = Some b.stocks

abbrev pub is_whole : ReadingTold → Bool
is_whole (end b) = true
is_whole r = false

-- the bundle, where the end was read
abbrev pub whole_bundle : ReadingTold → Option BundleTold
whole_bundle (end b) = Some b
whole_bundle r = None
