-- The bytes of a bundle, and what a bundle may tell.
use Rattle.std.specs.Prelude.{◌≡◌, ℕ, ◌+◌, ◌*◌, ◌≤◌, Bool, true, false, IsTrue, not, ◌&&◌, List, [], ◌∷◌, ◌++◌, length, map, All, Some}
use Rattle.std.specs.List.{flat_map, list_all}
use Rattle.market_types.specs.declared.feed.Feed.{Feed}
use Rattle.market_types.specs.Told.{EntryTold, EventTold, EditTold, event, edit}
use Rattle.bundle_frames.specs.declared.closing.Closing.{Closing}
use Rattle.bundle_frames.specs.Frames.{header_frame, branch_frame, end_frame, message_frame, feed_frames, entry_frames, closing_frames}
use Rattle.bundle_reader.specs.Frames.{HasRanges, payload}
use Rattle.bundle_reader.specs.declared.frame.Frame.{Frame}
use Rattle.bundle_reader.specs.declared.frame.Frame.TheVariants as frame
use Rattle.bundle_reader.specs.declared.frame.EventFrame.{EventFrame}
use Rattle.bundle_reader.specs.declared.head.EditHead.{EditHead}
use Rattle.bundle_reader.specs.Told.{BranchTold, BundleTold}
use Rattle.bundle_frames.specs.declared.closing.ClosingStock.{ClosingStock}
use Rattle.bundle_frames.specs.declared.closing.ClosingAgent.{ClosingAgent}
use Rattle.bundle_reader.specs.Order.{is_system, is_trading, is_of_orders, opens, belongs}

-- ---- the bytes, in the words of writing

-- the branch of a number
abbrev pub branch_bytes : ℕ → BranchTold → List ℕ
branch_bytes number b =
    branch_frame number b.parent b.stop b.name
    ++ feed_frames b.opening ++ flat_map entry_frames b.entries ++ message_frame b.ended ++ closing_frames b.closing

-- branches, the first of which has this number
abbrev pub branches_bytes : ℕ → List BranchTold → List ℕ
branches_bytes number [] = []
branches_bytes number (b ∷ bs) = branch_bytes number b ++ branches_bytes (number + 1) bs

-- the header, the branches from number 0 on, and the end
unfoldable pub bundle_bytes : BundleTold → List ℕ
bundle_bytes b =
    header_frame b.agents b.stocks (length b.branches) ++ branches_bytes 0 b.branches ++ end_frame (length b.branches)

-- ---- the same as frames

abbrev pub event_part : EventTold → EventFrame
event_part e = record {
  number = e.number;
  time = e.time;
  seq = e.seq;
  from = e.from;
  to = e.to;
  put_back = e.put_back;
  until = e.until;
  fee = e.fee;
  body = e.body;
}

abbrev pub edit_part : EditTold → EditHead
edit_part d = record { events = d.events; time = d.time; branch = d.branch; index = d.index; letter = d.letter }

abbrev pub feed_list : List Feed → List Frame
feed_list = map frame.Message

abbrev pub entry_list : EntryTold → List Frame
entry_list (event e) = feed_list e.before ++ (frame.Event (event_part e) ∷ feed_list e.after)
entry_list (edit d) = frame.Edit (edit_part d) ∷ feed_list d.feed

abbrev pub closing_list : Closing → List Frame
closing_list c = frame.Counts c.counts ∷ (map frame.Stock c.stocks ++ map frame.Order c.orders ++ map frame.Agent c.agents)

abbrev pub branch_list : ℕ → BranchTold → List Frame
branch_list number b =
    frame.Branch (record { branch = number; parent = b.parent; stop = b.stop; name = b.name })
    ∷ (feed_list b.opening ++ flat_map entry_list b.entries ++ (frame.Message b.ended ∷ closing_list b.closing))

abbrev pub branches_list : ℕ → List BranchTold → List Frame
branches_list number [] = []
branches_list number (b ∷ bs) = branch_list number b ++ branches_list (number + 1) bs

abbrev pub bundle_list : BundleTold → List Frame
bundle_list b =
    frame.Header (record { agents = b.agents; stocks = b.stocks; branches = length b.branches })
    ∷ (branches_list 0 b.branches ++ frame.End (length b.branches) ∷ [])

-- ---- what a bundle may tell

abbrev pub AreAll : (Feed → Bool) → List Feed → Type 0
AreAll test feed = IsTrue (list_all test feed)

-- each message may stand at its place of the opening, of which the first is this one
abbrev pub stand : ℕ → ℕ → List Feed → Bool
stand stocks at [] = true
stand stocks at (m ∷ ms) = opens stocks at m.what && stand stocks (at + 1) ms

-- An opening of so many stocks has a system event, a directory for each stock and a trading action for each.
pub record IsOpening (stocks : ℕ) (feed : List Feed) : Type 0 where
  pub count : length feed ≡ 1 + 2 * stocks
  pub order : IsTrue (stand stocks 0 feed)

-- stocks, or agents, are numbered from this number on
abbrev pub AreStocks : ℕ → List ClosingStock → Type 0
AreStocks n [] = Unit {0}
AreStocks n (s ∷ ss) = (s.stock ≡ n) × AreStocks (n + 1) ss

abbrev pub AreAgents : ℕ → List ClosingAgent → Type 0
AreAgents n [] = Unit {0}
AreAgents n (a ∷ rest) = (a.agent ≡ n) × AreAgents (n + 1) rest

-- Messages are none, or the one trading action that belongs to an edit.
abbrev pub is_own : EditTold → List Feed → Bool
is_own d [] = true
is_own d (m ∷ []) = is_trading m.what && belongs (record d { feed = [] }) m
is_own d (m ∷ n ∷ rest) = false

-- an edit has its trading action, or the first of these messages isn't one that belongs to it
abbrev pub is_left : EditTold → List Feed → Bool
is_left d [] = true
is_left d (m ∷ rest) = not (belongs d m)

-- Before an event stand trading actions, after it messages on orders. A halt or a resume has at most the one trading
-- action that belongs to it, any other edit has no feed.
abbrev pub HasFeed : EntryTold → Type 0
HasFeed (event e) = AreAll (λ m. is_trading m.what) e.before × AreAll (λ m. is_of_orders m.what) e.after
HasFeed (edit d) = IsTrue (is_own d d.feed)

-- No trading action that the reading gives to an edit stands before the event that follows the edit.
abbrev pub IsApart : EntryTold → List EntryTold → Type 0
IsApart (event e) rest = Unit {0}
IsApart (edit d) [] = Unit {0}
IsApart (edit d) (edit next ∷ rest) = Unit {0}
IsApart (edit d) (event e ∷ rest) = IsTrue (is_left d e.before)

-- the feed is split over the entries as it is read
abbrev pub IsSplit : List EntryTold → Type 0
IsSplit [] = Unit {0}
IsSplit (x ∷ rest) = HasFeed x × IsApart x rest × IsSplit rest

-- A closing has each stock and each agent by its number.
pub record IsClosing (stocks agents : ℕ) (c : Closing) : Type 0 where
  pub stock_count : length c.stocks ≡ stocks
  pub each_stock : AreStocks 0 c.stocks
  pub agent_count : length c.agents ≡ agents
  pub each_agent : AreAgents 0 c.agents

pub record IsBranch (stocks agents : ℕ) (b : BranchTold) : Type 0 where
  pub opening : IsOpening stocks b.opening
  pub split : IsSplit b.entries
  pub ended : IsTrue (is_system b.ended.what)
  pub closing : IsClosing stocks agents b.closing

-- A bundle tells branches of so many agents and stocks. Each field of each frame is in its range, and a frame's length has
-- two bytes.
pub record IsBundle (b : BundleTold) : Type 0 where
  pub branches : All (IsBranch b.stocks b.agents) b.branches
  pub ranges : All (HasRanges (Some b.stocks)) (bundle_list b)
  pub short : All (λ f. length (payload f) ≤ 65535) (bundle_list b)
