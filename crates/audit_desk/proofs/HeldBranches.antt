-- A branch of a course, clipped, is a branch: its edits and the changes before its events fit their fields, and what its feed says
-- stays of its kind.
use Rattle.std.proofs.Common.{◌≡◌, ◌∙◌, ℕ, ◌+◌, ◌%◌, ◌<◌, ◌≤◌, true, false, ◌&&◌, List, [], ◌∷◌, length, map, All, refl, sym, ap, subst, arith}
use Rattle.std.specs.Prelude.{if◌then◌else◌}
use Rattle.std.specs.List.{list_all}
use Rattle.std.proofs.Math.Nat.{mod-eq_of_lt}
use Rattle.std.proofs.lemmas.List.{length-map}
use Rattle.std.proofs.lemmas.List.Elements.{All-cons, All-head, All-nil, All-tail}
use Rattle.market_types.specs.declared.feed.Feed.{Feed}
use Rattle.market_types.specs.declared.feed.What.{What}
use Rattle.market_types.specs.declared.feed.What.TheVariants as what
use Rattle.market_types.specs.Told.{EditTold, EntryTold, event, edit}
use Rattle.wire_fields.specs.Values.{FieldValue}
use Rattle.wire_fields.specs.Wire.{IsInRange}
use Rattle.itch_codec.specs.Messages.{feed_wire}
use Rattle.bundle_frames.specs.Layouts.{edit_kinds}
use Rattle.bundle_frames.specs.Wires.{edit_wire}
use Rattle.bundle_frames.specs.declared.closing.Closing.{Closing}
use Rattle.bundle_frames.specs.declared.closing.ClosingAgent.{ClosingAgent}
use Rattle.bundle_frames.specs.declared.closing.ClosingStock.{ClosingStock}
use Rattle.bundle_reader.specs.Back.{edit_in}
use Rattle.bundle_reader.specs.Frames.{edit_with}
use Rattle.bundle_reader.specs.Order.{belongs, is_of_orders, is_system, is_trading, opens}
use Rattle.bundle_reader.specs.Told.{BranchTold}
use Rattle.bundle_reader.specs.Bundle.{AreAgents, AreStocks, HasFeed, IsApart, IsBranch, IsClosing, IsOpening, IsSplit, is_left, stand}
use Rattle.audit_desk.specs.AsRead.{as_read, with_first, without_first}
use Rattle.audit_desk.proofs.Marked.{IsMarkedInRange}
use Rattle.audit_desk.specs.Clipped.{clipped_agent, clipped_branch, clipped_closing, clipped_edit, clipped_entry, clipped_feed, clipped_stock, clipped_what}
use Rattle.audit_desk.proofs.HeldFields.{fields-kept}
use Rattle.audit_desk.proofs.HeldMessages.{feed-kept}

abbrev IsFeedInRange : Feed → Type 0
IsFeedInRange m = IsInRange (feed_wire m)

-- ---- kinds of messages

opens-kept : (stocks at : ℕ) (w : What) → opens stocks at (clipped_what w) ≡ opens stocks at w
opens-kept stocks at (what.System code) = refl
opens-kept stocks at (what.Directory stock category financial lot lots_only class sub_type authenticity short_sale ipo tier etp leverage inverse) = refl
opens-kept stocks at (what.Trading stock state reserved reason) = refl
opens-kept stocks at (what.Add reference side shares stock price) = refl
opens-kept stocks at (what.Executed reference shares match_number) = refl
opens-kept stocks at (what.Cancel reference shares) = refl
opens-kept stocks at (what.Delete reference) = refl
opens-kept stocks at (what.Trade reference side shares stock price match_number) = refl
opens-kept stocks at (what.Cross shares stock price match_number kind) = refl

orders-kept : (w : What) → is_of_orders (clipped_what w) ≡ is_of_orders w
orders-kept (what.System code) = refl
orders-kept (what.Directory stock category financial lot lots_only class sub_type authenticity short_sale ipo tier etp leverage inverse) = refl
orders-kept (what.Trading stock state reserved reason) = refl
orders-kept (what.Add reference side shares stock price) = refl
orders-kept (what.Executed reference shares match_number) = refl
orders-kept (what.Cancel reference shares) = refl
orders-kept (what.Delete reference) = refl
orders-kept (what.Trade reference side shares stock price match_number) = refl
orders-kept (what.Cross shares stock price match_number kind) = refl

system-kept : (w : What) → is_system (clipped_what w) ≡ is_system w
system-kept (what.System code) = refl
system-kept (what.Directory stock category financial lot lots_only class sub_type authenticity short_sale ipo tier etp leverage inverse) = refl
system-kept (what.Trading stock state reserved reason) = refl
system-kept (what.Add reference side shares stock price) = refl
system-kept (what.Executed reference shares match_number) = refl
system-kept (what.Cancel reference shares) = refl
system-kept (what.Delete reference) = refl
system-kept (what.Trade reference side shares stock price match_number) = refl
system-kept (what.Cross shares stock price match_number kind) = refl

stand-kept : (stocks at : ℕ) (xs : List Feed) → stand stocks at (map clipped_feed xs) ≡ stand stocks at xs
stand-kept stocks at [] = refl
stand-kept stocks at (m ∷ ms) =
    ap (λ b. b && stand stocks (at + 1) (map clipped_feed ms)) (opens-kept stocks at m.what)
    ∙ ap (λ b. opens stocks at m.what && b) (stand-kept stocks (at + 1) ms)

all-orders-kept : (xs : List Feed) → list_all (λ (m : Feed). is_of_orders m.what) (map clipped_feed xs) ≡ list_all (λ (m : Feed). is_of_orders m.what) xs
all-orders-kept [] = refl
all-orders-kept (m ∷ ms) =
    ap (λ b. b && list_all (λ (x : Feed). is_of_orders x.what) (map clipped_feed ms)) (orders-kept m.what)
    ∙ ap (λ b. is_of_orders m.what && b) (all-orders-kept ms)

-- ---- entries that fit

-- the changes before an event stay, and so does an edit
abbrev pub IsSteady : EntryTold → Type 0
IsSteady (event e) = map clipped_feed e.before ≡ e.before
IsSteady (edit d) = clipped_edit d ≡ d

all-kept : (xs : List Feed) → All IsFeedInRange xs → map clipped_feed xs ≡ xs
all-kept [] h = refl
all-kept (m ∷ ms) h =
    ap (λ (x : Feed). x ∷ map clipped_feed ms) (feed-kept m (All-head IsFeedInRange m ms h)) ∙ ap (λ (l : List Feed). m ∷ l) (all-kept ms (All-tail IsFeedInRange m ms h))

edit-kept : (d : EditTold) → IsInRange (edit_wire d) → All IsFeedInRange d.feed → clipped_edit d ≡ d
edit-kept d range feed =
    ap (λ (vs : List FieldValue). edit_with (edit_in vs) (map clipped_feed d.feed)) (fields-kept edit_kinds (edit_wire d).values range)
    ∙ ap (λ (l : List Feed). edit_with (edit_in (edit_wire d).values) l) (all-kept d.feed feed)

steady-of : (x : EntryTold) → IsMarkedInRange x → IsSteady x
steady-of (event e) h = all-kept e.before h.0
steady-of (edit d) h = edit-kept d h.0 h.1

-- ---- as they are read

-- an edit and an event behind it, with the message that is the edit's
abbrev IsRead : EditTold → List Feed → Type 0
IsRead d before = IsMarkedInRange (edit d) × All IsFeedInRange before

first-read : (d : EditTold) (before : List Feed) → IsMarkedInRange (edit d) → All IsFeedInRange before → IsRead (with_first d before) (without_first d before)
first-read d [] h k = (h, k)
first-read d (m ∷ rest) h k =
    let one = All-cons IsFeedInRange m [] (All-head IsFeedInRange m rest k) (All-nil IsFeedInRange) in
    elim (belongs d m) as (λ b. IsRead (if b then record d { feed = m ∷ [] } else d) (if b then rest else m ∷ rest)) [
      | true ↦ ((h.0, one), All-tail IsFeedInRange m rest k)
      | false ↦ (h, k)
    ]

pub steady-read : (xs : List EntryTold) → All IsMarkedInRange xs → All IsSteady (as_read xs)
steady-read [] h = All-nil IsSteady
steady-read (event e ∷ rest) h =
    All-cons IsSteady (event e) (as_read rest) (steady-of (event e) (All-head IsMarkedInRange (event e) rest h)) (steady-read rest (All-tail IsMarkedInRange (event e) rest h))
steady-read (edit d ∷ []) h = All-cons IsSteady (edit d) [] (steady-of (edit d) (All-head IsMarkedInRange (edit d) [] h)) (All-nil IsSteady)
steady-read (edit d ∷ edit next ∷ rest) h =
    All-cons IsSteady (edit d) (as_read (edit next ∷ rest)) (steady-of (edit d) (All-head IsMarkedInRange (edit d) (edit next ∷ rest) h))
    (steady-read (edit next ∷ rest) (All-tail IsMarkedInRange (edit d) (edit next ∷ rest) h))
steady-read (edit d ∷ event e ∷ rest) h =
    let tail = All-tail IsMarkedInRange (edit d) (event e ∷ rest) h in
    let own = All-head IsMarkedInRange (edit d) (event e ∷ rest) h in
    let feed = All-head IsMarkedInRange (event e) rest tail in
    let both = first-read d e.before own feed.0 in
    let own_edit = with_first d e.before in
    let next_event = record e { before = without_first d e.before } in
    All-cons IsSteady (edit own_edit) (event next_event ∷ as_read rest) (edit-kept own_edit both.0.0 both.0.1)
    (All-cons IsSteady (event next_event) (as_read rest) (all-kept (without_first d e.before) both.1) (steady-read rest (All-tail IsMarkedInRange (event e) rest tail)))

-- ---- the split of the feed

feed-steady : (x : EntryTold) → IsSteady x → HasFeed x → HasFeed (clipped_entry x)
feed-steady (event e) s h = (
  subst (λ (l : List Feed). list_all (λ (m : Feed). is_trading m.what) l ≡ true) (sym s) h.0,
  all-orders-kept e.after ∙ h.1,
)
feed-steady (edit d) s h = subst (λ (x : EditTold). HasFeed (edit x)) (sym s) h

apart-steady : (x : EntryTold) (rest : List EntryTold) → IsSteady x → All IsSteady rest → IsApart x rest → IsApart (clipped_entry x) (map clipped_entry rest)
apart-steady (event e) rest s all h = tt
apart-steady (edit d) [] s all h = tt
apart-steady (edit d) (edit next ∷ rest) s all h = tt
apart-steady (edit d) (event e ∷ rest) s all h =
    let before : map clipped_feed e.before ≡ e.before = All-head IsSteady (event e) rest all in
    subst (λ (x : EditTold). is_left x (map clipped_feed e.before) ≡ true) (sym s)
    (subst (λ (l : List Feed). is_left d l ≡ true) (sym before) h)

split-steady : (xs : List EntryTold) → All IsSteady xs → IsSplit xs → IsSplit (map clipped_entry xs)
split-steady [] s h = tt
split-steady (x ∷ rest) s h =
    let first = All-head IsSteady x rest s in
    let others = All-tail IsSteady x rest s in
    (feed-steady x first h.0, apart-steady x rest first others h.1, split-steady rest others h.2)

-- ---- closings

number-kept : (k n : ℕ) → k ≡ n → n < 65536 → k % 65536 ≡ n
number-kept k n e l = ap (λ (m : ℕ). m % 65536) e ∙ mod-eq_of_lt l

stocks-kept : (n : ℕ) (xs : List ClosingStock) → n + length xs ≤ 65536 → AreStocks n xs → AreStocks n (map clipped_stock xs)
stocks-kept n [] few h = tt
stocks-kept n (s ∷ ss) few h = (number-kept s.stock n h.0 (omega (arith, few)), stocks-kept (n + 1) ss (omega (arith, few)) h.1)

agents-kept : (n : ℕ) (xs : List ClosingAgent) → n + length xs ≤ 65536 → AreAgents n xs → AreAgents n (map clipped_agent xs)
agents-kept n [] few h = tt
agents-kept n (a ∷ rest) few h = (number-kept a.agent n h.0 (omega (arith, few)), agents-kept (n + 1) rest (omega (arith, few)) h.1)

closing-kept : (stocks agents : ℕ) (c : Closing) → stocks < 65536 → agents < 65536 → IsClosing stocks agents c → IsClosing stocks agents (clipped_closing c)
closing-kept stocks agents c few small h = record {
  stock_count = length-map c.stocks clipped_stock ∙ h.stock_count;
  each_stock = stocks-kept 0 c.stocks (omega (arith, few, h.stock_count)) h.each_stock;
  agent_count = length-map c.agents clipped_agent ∙ h.agent_count;
  each_agent = agents-kept 0 c.agents (omega (arith, small, h.agent_count)) h.each_agent;
}

-- ---- a branch

opening-kept : (stocks : ℕ) (feed : List Feed) → IsOpening stocks feed → IsOpening stocks (map clipped_feed feed)
opening-kept stocks feed h = record {
  count = length-map feed clipped_feed ∙ h.count;
  order = stand-kept stocks 0 feed ∙ h.order;
}

pub branch-kept : (stocks agents : ℕ) (b : BranchTold) → stocks < 65536 → agents < 65536 → All IsSteady b.entries → IsBranch stocks agents b → IsBranch stocks agents (clipped_branch b)
branch-kept stocks agents b few small steady h = record {
  opening = opening-kept stocks b.opening h.opening;
  split = split-steady b.entries steady h.split;
  ended = system-kept b.ended.what ∙ h.ended;
  closing = closing-kept stocks agents b.closing few small h.closing;
}
