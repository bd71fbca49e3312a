-- Frames, clipped: each is written as before, and is in its ranges where its texts are.
use Rattle.std.proofs.Common.{◌≡◌, ◌∙◌, ℕ, ◌/◌, ◌%◌, ◌^◌, ◌<◌, true, ◌&&◌, List, [], ◌∷◌, ◌++◌, length, map, Some, refl, sym, ap, subst, arith}
use Rattle.std.specs.Prelude.{◌==◌, nat_lt}
use Rattle.std.specs.List.{list_all}
use Rattle.std.specs.Int.{cast_unsigned, w64, w128}
use Rattle.std.proofs.lemmas.Bool.{and_from, and_parts}
use Rattle.std.proofs.lemmas.List.{length-map}
use Rattle.market_types.specs.declared.order.Token.{Token}
use Rattle.wire_fields.specs.declared.kind.Kind.TheVariants.{Alphanumeric, Bytes, Number}
use Rattle.wire_fields.specs.Kinds.{is_good}
use Rattle.wire_fields.specs.Numbers.{number_bytes}
use Rattle.wire_fields.specs.Values.{bytes, is_in_range, number}
use Rattle.wire_fields.specs.Wire.{IsInRange, Wire, spelled_fields, spelling}
use Rattle.itch_codec.specs.Messages.{feed_wire}
use Rattle.branch_tree.specs.Names.{IsNameLength}
use Rattle.bundle_frames.specs.Layouts.{agent_kinds, counts_kinds, edit_kinds, event_kinds, order_kinds, stock_kinds, waiting_kinds}
use Rattle.bundle_frames.specs.Wires.{agent_wire, body_bytes, branch_wire, byte, counts_wire, edit_wire, event_wire, header_wire, letter_of_body, letter_of_delivery, letter_of_silence, order_wire, positions_bytes, stock_wire}
use Rattle.bundle_frames.specs.declared.closing.ClosingAgent.{ClosingAgent}
use Rattle.bundle_frames.specs.declared.closing.ClosingCounts.{ClosingCounts}
use Rattle.bundle_frames.specs.declared.closing.ClosingOrder.{ClosingOrder}
use Rattle.bundle_frames.specs.declared.closing.ClosingStock.{ClosingStock}
use Rattle.bundle_reader.specs.declared.head.EditHead.{EditHead}
use Rattle.bundle_reader.specs.declared.frame.Frame.{Frame}
use Rattle.bundle_reader.specs.declared.frame.Frame.TheVariants.{Header, Branch, Message, Event, Edit, Counts, Stock, Order, Agent, Waiting, End}
use Rattle.bundle_reader.specs.declared.frame.EventFrame.{EventFrame}
use Rattle.bundle_reader.specs.declared.frame.WaitingFrame.{WaitingFrame}
use Rattle.bundle_reader.specs.Frames.{HasRanges, edit_with, event_with, payload, waiting_wire}
use Rattle.market_laws.specs.Texts.{HasBodyTexts, HasTexts, IsToken}
use Rattle.audit_desk.proofs.Around.{branch-in, byte-in, end-in, header-in}
use Rattle.audit_desk.proofs.FrameLetters.{delivery-in, letter-in, side-in, silence-in}
use Rattle.market_laws.proofs.Spellings.{texts-in}
use Rattle.audit_desk.specs.Clipped.{clipped_agent, clipped_body, clipped_counts, clipped_feed, clipped_number, clipped_order, clipped_signed, clipped_stock, clipped_wide}
use Rattle.audit_desk.proofs.HeldFields.{held_wire, number-below, number-held, stand_all, wire-fits, wire-spelled}
use Rattle.audit_desk.proofs.HeldSigned.{high-back, low-back, positions-fit, positions-same, signed-back, signed-fits, wide-fits}
use Rattle.audit_desk.proofs.HeldMessages.{body-fits, body-same, feed-fits, feed-spelled, letter-same}

abbrev clipped_event_frame : EventFrame → EventFrame
clipped_event_frame e = record {
  number = clipped_number 4 e.number;
  time = clipped_number 8 e.time;
  seq = clipped_number 8 e.seq;
  from = clipped_number 2 e.from;
  to = clipped_number 2 e.to;
  put_back = e.put_back;
  until = clipped_number 8 e.until;
  fee = clipped_signed e.fee;
  body = clipped_body e.body;
}

abbrev clipped_edit_head : EditHead → EditHead
clipped_edit_head d = record {
  events = clipped_number 4 d.events;
  time = clipped_number 8 d.time;
  branch = clipped_number 2 d.branch;
  index = clipped_number 2 d.index;
  letter = d.letter;
}

abbrev clipped_waiting_frame : WaitingFrame → WaitingFrame
clipped_waiting_frame w = record {
  time = clipped_number 8 w.time;
  seq = clipped_number 8 w.seq;
  from = clipped_number 2 w.from;
  to = clipped_number 2 w.to;
  body = clipped_body w.body;
}

-- a frame with its numbers clipped, but for the count and the numbers of branches, which a bundle doesn't tell
abbrev pub clipped_frame : Frame → Frame
clipped_frame (Header h) = Header (record { agents = clipped_number 2 h.agents; stocks = clipped_number 2 h.stocks; branches = h.branches })
clipped_frame (Branch b) = Branch (record { branch = b.branch; parent = clipped_number 2 b.parent; stop = clipped_number 4 b.stop; name = b.name })
clipped_frame (Message m) = Message (clipped_feed m)
clipped_frame (Event e) = Event (clipped_event_frame e)
clipped_frame (Edit d) = Edit (clipped_edit_head d)
clipped_frame (Counts c) = Counts (clipped_counts c)
clipped_frame (Stock s) = Stock (clipped_stock s)
clipped_frame (Order o) = Order (clipped_order o)
clipped_frame (Agent a) = Agent (clipped_agent a)
clipped_frame (Waiting w) = Waiting (clipped_waiting_frame w)
clipped_frame (End branches) = End branches

-- ---- as messages

-- an event by its fee and its letter
abbrev event_by : EventFrame → ℕ → ℕ → Wire
event_by e fee letter = record {
  letter = 101;
  kinds = event_kinds;
  values =
      number (clipped_number 4 e.number) ∷ number (clipped_number 8 e.time) ∷ number (clipped_number 8 e.seq) ∷ number (clipped_number 2 e.from)
      ∷ number (clipped_number 2 e.to) ∷ byte (letter_of_delivery e.put_back) ∷ number (clipped_number 8 e.until) ∷ number fee ∷ byte letter ∷ [];
}

event-held : (e : EventFrame) → event_wire (event_with (clipped_event_frame e) [] []) ≡ held_wire (event_wire (event_with e [] []))
event-held e =
    ap (λ (fee : ℕ). event_by e fee (letter_of_body (clipped_body e.body))) (signed-back e.fee)
    ∙ ap (λ (letter : ℕ). event_by e (cast_unsigned w64 e.fee % 2 ^ 64) letter) (letter-same e.body)

event-texts : (e : EventFrame) → HasTexts (event_wire (event_with e [] []))
event-texts e =
    texts-in event_kinds (event_wire (event_with e [] [])).values
    (tt, (tt, (tt, (tt, (tt, (delivery-in e.put_back, (tt, (tt, (letter-in e.body, tt)))))))))

waiting-held : (w : WaitingFrame) → waiting_wire (clipped_waiting_frame w) ≡ held_wire (waiting_wire w)
waiting-held w =
    let by : ℕ → Wire = λ letter. record {
      letter = 119;
      kinds = waiting_kinds;
      values =
          number (clipped_number 8 w.time) ∷ number (clipped_number 8 w.seq) ∷ number (clipped_number 2 w.from) ∷ number (clipped_number 2 w.to)
          ∷ byte letter ∷ [];
    } in
    ap by (letter-same w.body)

waiting-texts : (w : WaitingFrame) → HasTexts (waiting_wire w)
waiting-texts w = texts-in waiting_kinds (waiting_wire w).values (tt, (tt, (tt, (tt, (letter-in w.body, tt)))))

edit-held : (d : EditHead) → edit_wire (edit_with (clipped_edit_head d) []) ≡ held_wire (edit_wire (edit_with d []))
edit-held d = refl

edit-texts : (d : EditHead) → d.letter < 256 → HasTexts (edit_wire (edit_with d []))
edit-texts d h = texts-in edit_kinds (edit_wire (edit_with d [])).values (tt, (tt, (tt, (tt, (byte-in d.letter h, tt)))))

counts-held : (c : ClosingCounts) → counts_wire (clipped_counts c) ≡ held_wire (counts_wire c)
counts-held c = refl

counts-texts : (c : ClosingCounts) → c.end < 256 → HasTexts (counts_wire c)
counts-texts c h =
    texts-in counts_kinds (counts_wire c).values (byte-in c.end h, (tt, (tt, (tt, (tt, (tt, (tt, (tt, (tt, (tt, tt))))))))))

-- a stock by the halves of its fees and its offset
abbrev stock_by : ClosingStock → ℕ → ℕ → ℕ → Wire
stock_by s high low offset = record {
  letter = 115;
  kinds = stock_kinds;
  values =
      number (clipped_number 2 s.stock) ∷ byte s.state ∷ number (clipped_number 4 s.last) ∷ number (clipped_number 8 s.matched)
      ∷ number high ∷ number low ∷ number offset ∷ number (clipped_number 4 s.live) ∷ [];
}

stock-held : (s : ClosingStock) → stock_wire (clipped_stock s) ≡ held_wire (stock_wire s)
stock-held s =
    let low = cast_unsigned w128 (clipped_wide s.fees) % 2 ^ 64 in
    let offset = cast_unsigned w64 (clipped_signed s.offset) in
    let high_now = cast_unsigned w128 s.fees / 2 ^ 64 % 2 ^ 64 in
    let low_now = cast_unsigned w128 s.fees % 2 ^ 64 % 2 ^ 64 in
    ap (λ (n : ℕ). stock_by s n low offset) (high-back s.fees)
    ∙ ap (λ (n : ℕ). stock_by s high_now n offset) (low-back s.fees)
    ∙ ap (λ (n : ℕ). stock_by s high_now low_now n) (signed-back s.offset)

stock-texts : (s : ClosingStock) → s.state < 256 → HasTexts (stock_wire s)
stock-texts s h = texts-in stock_kinds (stock_wire s).values (tt, (byte-in s.state h, (tt, (tt, (tt, (tt, (tt, (tt, tt))))))))

order-held : (o : ClosingOrder) → order_wire (clipped_order o) ≡ held_wire (order_wire o)
order-held o = refl

always : (bs : List ℕ) → list_all (λ b. true) bs ≡ true
always [] = refl
always (b ∷ bs) = always bs

-- a token of letters and digits may stand as it is
token-in : (t : Token) → IsToken t → is_in_range (Bytes 14) (bytes t.0) ≡ true
unfolding is_in_range is_good
token-in t h =
    let outer = and_parts (length t.0 == 14) (is_good (Alphanumeric 14) t.0 && list_all (λ b. nat_lt b 256) t.0) h in
    let inner = and_parts (is_good (Alphanumeric 14) t.0) (list_all (λ b. nat_lt b 256) t.0) outer.1 in
    and_from (length t.0 == 14) (list_all (λ b. true) t.0 && list_all (λ b. nat_lt b 256) t.0) outer.0
    (and_from (list_all (λ b. true) t.0) (list_all (λ b. nat_lt b 256) t.0) (always t.0) inner.1)

order-texts : (o : ClosingOrder) → IsToken o.token → HasTexts (order_wire o)
order-texts o h =
    texts-in order_kinds (order_wire o).values (tt, (tt, (token-in o.token h, (side-in o.side, (tt, (tt, (tt, (tt, (tt, tt)))))))))

-- an agent by the halves of its cash and of its own cash, and its own position
abbrev agent_by : ClosingAgent → ℕ → ℕ → ℕ → ℕ → ℕ → Wire
agent_by a high low own_high own_low position = record {
  letter = 97;
  kinds = agent_kinds;
  values =
      number (clipped_number 2 a.agent) ∷ byte (letter_of_silence a.silenced) ∷ number (clipped_number 8 a.time) ∷ number (clipped_number 4 a.tokens)
      ∷ number (clipped_number 8 a.draws) ∷ number high ∷ number low ∷ number own_high ∷ number own_low ∷ number position
      ∷ number (clipped_number 2 a.live) ∷ number (clipped_number 4 a.quotes) ∷ [];
}

agent-held : (a : ClosingAgent) → agent_wire (clipped_agent a) ≡ held_wire (agent_wire a)
agent-held a =
    let low = cast_unsigned w128 (clipped_wide a.cash) % 2 ^ 64 in
    let own_high = cast_unsigned w128 (clipped_wide a.own_cash) / 2 ^ 64 in
    let own_low = cast_unsigned w128 (clipped_wide a.own_cash) % 2 ^ 64 in
    let position = cast_unsigned w64 (clipped_signed a.own_position) in
    let high_now = cast_unsigned w128 a.cash / 2 ^ 64 % 2 ^ 64 in
    let low_now = cast_unsigned w128 a.cash % 2 ^ 64 % 2 ^ 64 in
    let own_high_now = cast_unsigned w128 a.own_cash / 2 ^ 64 % 2 ^ 64 in
    let own_low_now = cast_unsigned w128 a.own_cash % 2 ^ 64 % 2 ^ 64 in
    ap (λ (n : ℕ). agent_by a n low own_high own_low position) (high-back a.cash)
    ∙ ap (λ (n : ℕ). agent_by a high_now n own_high own_low position) (low-back a.cash)
    ∙ ap (λ (n : ℕ). agent_by a high_now low_now n own_low position) (high-back a.own_cash)
    ∙ ap (λ (n : ℕ). agent_by a high_now low_now own_high_now n position) (low-back a.own_cash)
    ∙ ap (λ (n : ℕ). agent_by a high_now low_now own_high_now own_low_now n) (signed-back a.own_position)

agent-texts : (a : ClosingAgent) → HasTexts (agent_wire a)
agent-texts a =
    texts-in agent_kinds (agent_wire a).values
    (tt, (silence-in a.silenced, (tt, (tt, (tt, (tt, (tt, (tt, (tt, (tt, (tt, (tt, tt))))))))))))

-- ---- the same bytes

-- what is held is written as before
same-by : (v w : Wire) → v ≡ held_wire w → spelling v ≡ spelling w
same-by v w h = ap spelling h ∙ wire-spelled w

both : (a b c d : List ℕ) → a ≡ b → c ≡ d → a ++ c ≡ b ++ d
both a b c d e g = ap (λ (l : List ℕ). l ++ c) e ∙ ap (λ (l : List ℕ). b ++ l) g

header-same : (agents stocks branches : ℕ) → spelling (header_wire (clipped_number 2 agents) (clipped_number 2 stocks) branches) ≡ spelling (header_wire agents stocks branches)
header-same agents stocks branches =
    let rest = spelled_fields (Number 2 ∷ []) (number branches ∷ []) in
    ap (λ (l : List ℕ). 104 ∷ (number_bytes 2 1 ++ (l ++ (number_bytes 2 (clipped_number 2 stocks) ++ rest)))) (number-held 2 agents)
    ∙ ap (λ (l : List ℕ). 104 ∷ (number_bytes 2 1 ++ (number_bytes 2 agents ++ (l ++ rest)))) (number-held 2 stocks)

branch-same : (branch parent stop : ℕ) (name : List ℕ) → spelling (branch_wire branch (clipped_number 2 parent) (clipped_number 4 stop) name) ≡ spelling (branch_wire branch parent stop name)
branch-same branch parent stop name =
    ap (λ (l : List ℕ). 98 ∷ (number_bytes 2 branch ++ (l ++ (number_bytes 4 (clipped_number 4 stop) ++ (length name ∷ []))))) (number-held 2 parent)
    ∙ ap (λ (l : List ℕ). 98 ∷ (number_bytes 2 branch ++ (number_bytes 2 parent ++ (l ++ (length name ∷ []))))) (number-held 4 stop)

pub payload-same : (f : Frame) → payload (clipped_frame f) ≡ payload f
payload-same (Header h) = header-same h.agents h.stocks h.branches
payload-same (Branch b) = ap (λ (l : List ℕ). l ++ b.name) (branch-same b.branch b.parent b.stop b.name)
payload-same (Message m) = feed-spelled m
payload-same (Event e) =
    both (spelling (event_wire (event_with (clipped_event_frame e) [] []))) (spelling (event_wire (event_with e [] []))) (body_bytes (clipped_body e.body)) (body_bytes e.body)
    (same-by (event_wire (event_with (clipped_event_frame e) [] [])) (event_wire (event_with e [] [])) (event-held e)) (body-same e.body)
payload-same (Edit d) = same-by (edit_wire (edit_with (clipped_edit_head d) [])) (edit_wire (edit_with d [])) (edit-held d)
payload-same (Counts c) = same-by (counts_wire (clipped_counts c)) (counts_wire c) (counts-held c)
payload-same (Stock s) = same-by (stock_wire (clipped_stock s)) (stock_wire s) (stock-held s)
payload-same (Order o) = same-by (order_wire (clipped_order o)) (order_wire o) (order-held o)
payload-same (Agent a) =
    both (spelling (agent_wire (clipped_agent a))) (spelling (agent_wire a)) (positions_bytes (map clipped_signed a.positions)) (positions_bytes a.positions)
    (same-by (agent_wire (clipped_agent a)) (agent_wire a) (agent-held a)) (positions-same a.positions)
payload-same (Waiting w) =
    both (spelling (waiting_wire (clipped_waiting_frame w))) (spelling (waiting_wire w)) (body_bytes (clipped_body w.body)) (body_bytes w.body)
    (same-by (waiting_wire (clipped_waiting_frame w)) (waiting_wire w) (waiting-held w)) (body-same w.body)
payload-same (End branches) = refl

-- ---- ranges

-- what is asked of a frame beside its numbers: its texts and letters are such, an agent has a position in each stock, and there
-- are not too many branches
abbrev pub HasFrameTexts : ℕ → Frame → Type 0
HasFrameTexts stocks (Header h) = h.branches < 65536
HasFrameTexts stocks (Branch b) = (b.branch < 65536) × IsNameLength (length b.name)
HasFrameTexts stocks (Message m) = HasTexts (feed_wire m)
HasFrameTexts stocks (Event e) = HasBodyTexts e.body
HasFrameTexts stocks (Edit d) = d.letter < 256
HasFrameTexts stocks (Counts c) = c.end < 256
HasFrameTexts stocks (Stock s) = s.state < 256
HasFrameTexts stocks (Order o) = IsToken o.token
HasFrameTexts stocks (Agent a) = length a.positions ≡ stocks
HasFrameTexts stocks (Waiting w) = HasBodyTexts w.body
HasFrameTexts stocks (End branches) = branches < 65536

fits-by : (v w : Wire) → v ≡ held_wire w → stand_all w.kinds w.values ≡ true → HasTexts w → IsInRange v
fits-by v w e s h = subst (λ (x : Wire). IsInRange x) (sym e) (wire-fits w s h)

agent-fits : (stocks : ℕ) (a : ClosingAgent) → length a.positions ≡ stocks → HasRanges (Some stocks) (Agent (clipped_agent a))
agent-fits stocks a h = (
  fits-by (agent_wire (clipped_agent a)) (agent_wire a) (agent-held a) refl (agent-texts a),
  wide-fits a.cash,
  wide-fits a.own_cash,
  signed-fits a.own_position,
  positions-fit a.positions,
  length-map a.positions clipped_signed ∙ h,
)

-- a frame of a bundle of so many stocks
pub frame-fits : (stocks : ℕ) (f : Frame) → HasFrameTexts stocks f → HasRanges (Some stocks) (clipped_frame f)
frame-fits stocks (Header h) few =
    header-in (clipped_number 2 h.agents) (clipped_number 2 h.stocks) h.branches (number-below 2 h.agents) (number-below 2 h.stocks) few
frame-fits stocks (Branch b) h = (
  branch-in b.branch (clipped_number 2 b.parent) (clipped_number 4 b.stop) b.name h.0 (number-below 2 b.parent) (number-below 4 b.stop) (omega (arith, h.1.few)),
  h.1,
)
frame-fits stocks (Message m) h = feed-fits m h
frame-fits stocks (Event e) h = (
  fits-by (event_wire (event_with (clipped_event_frame e) [] [])) (event_wire (event_with e [] [])) (event-held e) refl (event-texts e),
  signed-fits e.fee,
  body-fits e.body h,
)
frame-fits stocks (Edit d) h = fits-by (edit_wire (edit_with (clipped_edit_head d) [])) (edit_wire (edit_with d [])) (edit-held d) refl (edit-texts d h)
frame-fits stocks (Counts c) h = fits-by (counts_wire (clipped_counts c)) (counts_wire c) (counts-held c) refl (counts-texts c h)
frame-fits stocks (Stock s) h = (
  fits-by (stock_wire (clipped_stock s)) (stock_wire s) (stock-held s) refl (stock-texts s h),
  wide-fits s.fees,
  signed-fits s.offset,
)
frame-fits stocks (Order o) h = fits-by (order_wire (clipped_order o)) (order_wire o) (order-held o) refl (order-texts o h)
frame-fits stocks (Agent a) h = agent-fits stocks a h
frame-fits stocks (Waiting w) h = (
  fits-by (waiting_wire (clipped_waiting_frame w)) (waiting_wire w) (waiting-held w) refl (waiting-texts w),
  body-fits w.body h,
)
frame-fits stocks (End branches) few = end-in branches few
