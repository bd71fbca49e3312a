-- A frame whose fields are in their ranges is short.
use Rattle.std.proofs.Common.{◌≡◌, ℕ, ◌+◌, ◌≤◌, true, List, [], ◌∷◌, length, Some, refl, arith}
use Rattle.std.proofs.lemmas.Bool.{and_parts}
use Rattle.std.proofs.lemmas.List.{length-append}
use Rattle.market_types.specs.declared.feed.What.{What}
use Rattle.market_types.specs.declared.feed.What.TheVariants as what
use Rattle.market_types.specs.declared.message.Body.{Body}
use Rattle.market_types.specs.declared.message.Body.TheVariants as body
use Rattle.market_types.specs.declared.order.Inbound.{Inbound}
use Rattle.market_types.specs.declared.order.Inbound.TheVariants as inbound
use Rattle.market_types.specs.declared.reply.Reply.{Reply}
use Rattle.market_types.specs.declared.reply.Reply.TheVariants as reply
use Rattle.wire_fields.specs.declared.kind.Kind.{Kind}
use Rattle.wire_fields.specs.Values.{FieldValue, number, spelled, is_in_range}
use Rattle.wire_fields.specs.Wire.{Wire, IsInRange, are_in_range, spelled_fields, spelling, total_width}
use Rattle.wire_fields.proofs.Spelled.{value_again}
use Rattle.ouch_codec.specs.Inbound.{inbound_wire}
use Rattle.ouch_codec.specs.Outbound.{reply_wire}
use Rattle.itch_codec.specs.Messages.{feed_wire, what_wire}
use Rattle.bundle_frames.specs.Layouts.{ask_kinds, quote_kinds}
use Rattle.bundle_frames.specs.Wires.{agent_wire, body_bytes, branch_wire, counts_wire, edit_wire, end_wire, event_wire, header_wire, order_wire, positions_bytes, quote_values, stock_wire}
use Rattle.bundle_reader.specs.Bodies.{HasRanges as HasBodyRanges}
use Rattle.bundle_reader.specs.Frames.{HasRanges, edit_with, event_with, payload, waiting_wire}
use Rattle.bundle_reader.specs.declared.frame.Frame.{Frame}
use Rattle.bundle_reader.specs.declared.frame.Frame.TheVariants.{Header, Branch, Message, Event, Edit, Counts, Stock, Order, Agent, Waiting, End}
use Rattle.bundle_reader.proofs.Signed.{length-positions}

fields-long : (ks : List Kind) (vs : List FieldValue) → are_in_range ks vs ≡ true → length (spelled_fields ks vs) ≡ total_width ks
fields-long [] vs h = refl
fields-long (k ∷ ks) [] h = absurd cc
fields-long (k ∷ ks) (v ∷ vs) h =
    let parts = and_parts (is_in_range k v) (are_in_range ks vs) h in
    omega (arith, length-append (spelled k v) (spelled_fields ks vs), (value_again k v parts.0).len, fields-long ks vs parts.1)

spelling-long : (w : Wire) → IsInRange w → length (spelling w) ≡ total_width w.kinds + 1
spelling-long w h = omega (arith, fields-long w.kinds w.values h)

-- the layouts of the codes are narrow
what-narrow : (a b c : FieldValue) (w : What) → total_width (what_wire a b c w).kinds ≤ 100
what-narrow a b c (what.System code) = omega arith
what-narrow a b c (what.Directory stock category financial lot lots_only class sub_type authenticity short_sale ipo tier etp leverage inverse) = omega arith
what-narrow a b c (what.Trading stock state reserved reason) = omega arith
what-narrow a b c (what.Add reference side shares stock price) = omega arith
what-narrow a b c (what.Executed reference shares match_number) = omega arith
what-narrow a b c (what.Cancel reference shares) = omega arith
what-narrow a b c (what.Delete reference) = omega arith
what-narrow a b c (what.Trade reference side shares stock price match_number) = omega arith
what-narrow a b c (what.Cross shares stock price match_number kind) = omega arith

inbound-narrow : (i : Inbound) → total_width (inbound_wire i).kinds ≤ 100
inbound-narrow (inbound.Enter m) = omega arith
inbound-narrow (inbound.Cancel m) = omega arith

reply-narrow : (r : Reply) → total_width (reply_wire r).kinds ≤ 100
reply-narrow (reply.System time code) = omega arith
reply-narrow (reply.Accepted time token side shares stock price tif firm display reference capacity sweep minimum cross state bbo) = omega arith
reply-narrow (reply.Canceled time token decrement reason) = omega arith
reply-narrow (reply.Executed time token shares price flag match_number) = omega arith
reply-narrow (reply.Rejected time token reason) = omega arith

body-narrow : (b : Body) → HasBodyRanges b → length (body_bytes b) ≤ 101
body-narrow body.Wake h = omega arith
body-narrow (body.Order i) h = omega (arith, spelling-long (inbound_wire i) h, inbound-narrow i)
body-narrow (body.Answer r) h = omega (arith, spelling-long (reply_wire r) h, reply-narrow r)
body-narrow (body.Ask stock) h = let n : length (spelled_fields ask_kinds (number stock ∷ [])) ≡ 2 = fields-long ask_kinds (number stock ∷ []) h in omega (arith, n)
body-narrow (body.Quote q) h = let n : length (spelled_fields quote_kinds (quote_values q)) ≡ 31 = fields-long quote_kinds (quote_values q) h in omega (arith, n)

-- a frame among at most so many stocks
pub frame-short : (stocks : ℕ) (f : Frame) → stocks ≤ 16 → HasRanges (Some stocks) f → length (payload f) ≤ 65535
frame-short stocks (Header h) few r = let n : length (payload (Header h)) ≡ 9 = spelling-long (header_wire h.agents h.stocks h.branches) r in omega (arith, n)
frame-short stocks (Branch b) few r =
    let head = spelling (branch_wire b.branch b.parent b.stop b.name) in
    let n : length head ≡ 10 = spelling-long (branch_wire b.branch b.parent b.stop b.name) r.0 in
    omega (arith, n, length-append head b.name, r.1.few)
frame-short stocks (Message m) few r = omega (arith, spelling-long (feed_wire m) r, what-narrow (number m.locate) (number m.tracking) (number m.time) m.what)
frame-short stocks (Event e) few r =
    let head = spelling (event_wire (event_with e [] [])) in
    let n : length head ≡ 43 = spelling-long (event_wire (event_with e [] [])) r.0 in
    omega (arith, n, length-append head (body_bytes e.body), body-narrow e.body r.2)
frame-short stocks (Edit d) few r = let n : length (payload (Edit d)) ≡ 18 = spelling-long (edit_wire (edit_with d [])) r in omega (arith, n)
frame-short stocks (Counts c) few r = let n : length (payload (Counts c)) ≡ 66 = spelling-long (counts_wire c) r in omega (arith, n)
frame-short stocks (Stock s) few r = let n : length (payload (Stock s)) ≡ 44 = spelling-long (stock_wire s) r.0 in omega (arith, n)
frame-short stocks (Order o) few r = let n : length (payload (Order o)) ≡ 44 = spelling-long (order_wire o) r in omega (arith, n)
frame-short stocks (Agent a) few r =
    let head = spelling (agent_wire a) in
    let n : length head ≡ 70 = spelling-long (agent_wire a) r.0 in
    let all : length a.positions ≡ stocks = r.5 in
    omega (arith, n, length-append head (positions_bytes a.positions), length-positions a.positions, all, few)
frame-short stocks (Waiting w) few r =
    let head = spelling (waiting_wire w) in
    let n : length head ≡ 22 = spelling-long (waiting_wire w) r.0 in
    omega (arith, n, length-append head (body_bytes w.body), body-narrow w.body r.1)
frame-short stocks (End branches) few r = let n : length (payload (End branches)) ≡ 3 = spelling-long (end_wire branches) r in omega (arith, n)
