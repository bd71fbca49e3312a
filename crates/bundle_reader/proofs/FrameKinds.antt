-- Each kind of frame, made of its head and its rest.
use Rattle.std.proofs.Common.{◌≡◌, ◌∙◌, ℕ, ◌<◌, ◌/◌, ◌%◌, ◌^◌, ◌==◌, Bool, true, false, List, [], ◌∷◌, length, drop, get_or, Option, Some, None, refl, sym, ap, subst, arith}
use Rattle.std.specs.Prelude.{ℤ, All}
use Rattle.std.specs.Int.{cast_unsigned, cast_signed, w64, w128}
use Rattle.std.specs.Int.RustNames.{FitsSigned}
use Rattle.std.proofs.Math.Facts.{sfits_to_z}
use Rattle.std.proofs.lemmas.Int.{of_z-to_z, to_z-of_z}
use Rattle.market_types.specs.declared.message.Body.{Body}
use Rattle.wire_fields.specs.Wire.{IsInRange}
use Rattle.branch_tree.specs.Names.{IsNameLength}
use Rattle.bundle_frames.specs.Wires.{letter_of_delivery, letter_of_body, letter_of_silence, body_bytes, positions_bytes}
use Rattle.bundle_frames.specs.declared.closing.ClosingStock.{ClosingStock}
use Rattle.bundle_frames.specs.declared.closing.ClosingAgent.{ClosingAgent}
use Rattle.bundle_reader.specs.declared.head.Head.{Head}
use Rattle.bundle_reader.specs.declared.head.Head.TheVariants as head
use Rattle.bundle_reader.specs.declared.head.HeaderHead.{HeaderHead}
use Rattle.bundle_reader.specs.declared.head.BranchHead.{BranchHead}
use Rattle.bundle_reader.specs.declared.head.EventHead.{EventHead}
use Rattle.bundle_reader.specs.declared.head.StockHead.{StockHead}
use Rattle.bundle_reader.specs.declared.head.AgentHead.{AgentHead}
use Rattle.bundle_reader.specs.declared.head.WaitingHead.{WaitingHead}
use Rattle.bundle_reader.specs.Heads.{head_wire}
use Rattle.bundle_reader.specs.Bodies.{IsBody}
use Rattle.bundle_reader.specs.declared.frame.Frame.{Frame}
use Rattle.bundle_reader.specs.declared.frame.Frame.TheVariants.{Header, Branch, Event, Stock, Agent, Waiting}
use Rattle.bundle_reader.specs.declared.frame.EventFrame.{EventFrame}
use Rattle.bundle_reader.specs.declared.frame.WaitingFrame.{WaitingFrame}
use Rattle.bundle_reader.specs.Frames.{HasPositions}
use Rattle.bundle_reader.specs.Parts.{header_part, branch_part, event_part, stock_part, agent_part, waiting_part, IsOf}
use Rattle.bundle_reader.proofs.Signed.{one_of_halves, same_positions}

-- which kind of head one is
abbrev pub kind : Option Head → ℕ
kind None = 10
kind (Some (head.Header h)) = 0
kind (Some (head.Branch h)) = 1
kind (Some (head.Event h)) = 2
kind (Some (head.Edit h)) = 3
kind (Some (head.Counts h)) = 4
kind (Some (head.Stock h)) = 5
kind (Some (head.Order h)) = 6
kind (Some (head.Agent h)) = 7
kind (Some (head.Waiting h)) = 8
kind (Some (head.End h)) = 9

-- ---- headers

abbrev header_with : HeaderHead → ℕ → HeaderHead
header_with h v = record { version = v; agents = h.agents; stocks = h.stocks; branches = h.branches }

abbrev pub header_frame_of : HeaderHead → Frame
header_frame_of h = Header (record { agents = h.agents; stocks = h.stocks; branches = h.branches })

pub header_is : (stocks : Option ℕ) (h : HeaderHead) (rest : List ℕ) → h.version ≡ 1 → rest ≡ [] → IsInRange (head_wire (head.Header h))
    → IsOf stocks (head.Header h) rest (header_frame_of h)
header_is stocks h rest version none is =
    let P : ℕ → Type 0 = λ v. IsInRange (head_wire (head.Header (header_with h v))) in
    record {
      first = ap (λ v. Some (head.Header (header_with h v))) (sym version);
      after = sym none;
      ranges = subst P version is;
    }

header_same : (a b : HeaderHead) → Some (head.Header a) ≡ Some (head.Header b) → a ≡ b
header_same a b e = cc

pub header_only : (stocks : Option ℕ) (h : HeaderHead) (rest : List ℕ) (f : Frame) → IsOf stocks (head.Header h) rest f
    → (h.version ≡ 1) × (rest ≡ []) × (f ≡ header_frame_of h)
header_only stocks h rest (Header x) is =
    let e = header_same (header_part x) h is.first in
    (sym (ap (λ (y : HeaderHead). y.version) e), sym is.after, ap header_frame_of e)
header_only stocks h rest f is = absurd (omega (arith, ap kind is.first))

-- ---- branches

abbrev branch_with : BranchHead → ℕ → BranchHead
branch_with h n = record { branch = h.branch; parent = h.parent; stop = h.stop; name_length = n }

abbrev pub branch_frame_of : BranchHead → List ℕ → Frame
branch_frame_of h name = Branch (record { branch = h.branch; parent = h.parent; stop = h.stop; name = name })

pub branch_is : (stocks : Option ℕ) (h : BranchHead) (rest : List ℕ) → length rest ≡ h.name_length → IsNameLength (length rest) → IsInRange (head_wire (head.Branch h))
    → IsOf stocks (head.Branch h) rest (branch_frame_of h rest)
branch_is stocks h rest len name is =
    let P : ℕ → Type 0 = λ n. IsInRange (head_wire (head.Branch (branch_with h n))) in
    record {
      first = ap (λ n. Some (head.Branch (branch_with h n))) len;
      after = refl;
      ranges = (subst P (sym len) is, name);
    }

branch_same : (a b : BranchHead) → Some (head.Branch a) ≡ Some (head.Branch b) → a ≡ b
branch_same a b e = cc

pub branch_only : (stocks : Option ℕ) (h : BranchHead) (rest : List ℕ) (f : Frame) → IsOf stocks (head.Branch h) rest f
    → (length rest ≡ h.name_length) × IsNameLength (length rest) × (f ≡ branch_frame_of h rest)
branch_only stocks h rest (Branch x) is =
    let e = branch_same (branch_part x) h is.first in
    let P : List ℕ → Type 0 = λ n. IsNameLength (length n) in (
      ap length (sym is.after) ∙ ap (λ (y : BranchHead). y.name_length) e,
      subst P is.after is.ranges.1,
      ap (λ y. branch_frame_of y x.name) e ∙ ap (branch_frame_of h) is.after,
    )
branch_only stocks h rest f is = absurd (omega (arith, ap kind is.first))

-- ---- letters

pub delivery_back : (b : Bool) → (letter_of_delivery b == 80) ≡ b
delivery_back true = refl
delivery_back false = refl

pub silence_back : (b : Bool) → (letter_of_silence b == 89) ≡ b
silence_back true = refl
silence_back false = refl

-- ---- numbers of heads

fee_back : (n : ℕ) → n < 2 ^ 64 → cast_unsigned w64 (cast_signed w64 n) ≡ n
fee_back n lt = of_z-to_z w64 n lt

-- ---- events

abbrev event_with_fields : EventHead → ℕ → ℕ → ℕ → EventHead
event_with_fields h delivery fee body = record {
  number = h.number;
  time = h.time;
  seq = h.seq;
  from = h.from;
  to = h.to;
  delivery = delivery;
  until = h.until;
  fee = fee;
  body = body;
}

abbrev pub event_frame_of : EventHead → Body → EventFrame
event_frame_of h b = record {
  number = h.number;
  time = h.time;
  seq = h.seq;
  from = h.from;
  to = h.to;
  put_back = h.delivery == 80;
  until = h.until;
  fee = cast_signed w64 h.fee;
  body = b;
}

event_same : (a b : EventHead) → Some (head.Event a) ≡ Some (head.Event b) → a ≡ b
event_same a b e = cc

pub event_is : (stocks : Option ℕ) (h : EventHead) (rest : List ℕ) (b : Body) → IsBody (h.body ∷ rest) b → h.fee < 2 ^ 64 → letter_of_delivery (h.delivery == 80) ≡ h.delivery
    → IsInRange (head_wire (head.Event h)) → IsOf stocks (head.Event h) rest (Event (event_frame_of h b))
event_is stocks h rest b is fee delivery range =
    let letter : letter_of_body b ≡ h.body = ap (λ (l : List ℕ). get_or l 0 0) (sym is.same) in
    let same : event_part (event_frame_of h b) ≡ h =
    ap (λ d. event_with_fields h d (cast_unsigned w64 (cast_signed w64 h.fee)) (letter_of_body b)) delivery
    ∙ ap (λ n. event_with_fields h h.delivery n (letter_of_body b)) (of_z-to_z w64 h.fee fee)
    ∙ ap (event_with_fields h h.delivery h.fee) letter in
    let P : EventHead → Type 0 = λ k. IsInRange (head_wire (head.Event k)) in
    record {
      first = ap (λ k. Some (head.Event k)) same;
      after = ap (drop 1) (sym is.same);
      ranges = (subst P (sym same) range, sfits_to_z (record { fits = fee }), is.in_range);
    }

-- the event and its body
pub event_only : (stocks : Option ℕ) (h : EventHead) (rest : List ℕ) (f : Frame) → IsOf stocks (head.Event h) rest f
    → (b : Body) × IsBody (h.body ∷ rest) b × (f ≡ Event (event_frame_of h b))
event_only stocks h rest (Event x) is =
    let e = event_same (event_part x) h is.first in
    let bytes : h.body ∷ rest ≡ letter_of_body x.body ∷ body_bytes x.body =
    ap (λ (l : ℕ). l ∷ rest) (sym (ap (λ (y : EventHead). y.body) e)) ∙ ap (λ (r : List ℕ). letter_of_body x.body ∷ r) (sym is.after) in
    let back : event_frame_of (event_part x) x.body ≡ x =
    ap (λ p. record (event_frame_of (event_part x) x.body) { put_back = p }) (delivery_back x.put_back)
    ∙ ap (λ z. record x { fee = z }) (to_z-of_z w64 x.fee is.ranges.1) in
    (x.body, record { same = bytes; in_range = is.ranges.2 }, ap Event (sym back ∙ ap (λ y. event_frame_of y x.body) e))
event_only stocks h rest f is = absurd (omega (arith, ap kind is.first))

-- ---- waiting messages

abbrev pub waiting_frame_of : WaitingHead → Body → WaitingFrame
waiting_frame_of h b = record { time = h.time; seq = h.seq; from = h.from; to = h.to; body = b }

waiting_same : (a b : WaitingHead) → Some (head.Waiting a) ≡ Some (head.Waiting b) → a ≡ b
waiting_same a b e = cc

pub waiting_is : (stocks : Option ℕ) (h : WaitingHead) (rest : List ℕ) (b : Body) → IsBody (h.body ∷ rest) b
    → IsInRange (head_wire (head.Waiting h)) → IsOf stocks (head.Waiting h) rest (Waiting (waiting_frame_of h b))
waiting_is stocks h rest b is range =
    let letter : letter_of_body b ≡ h.body = ap (λ (l : List ℕ). get_or l 0 0) (sym is.same) in
    let same : waiting_part (waiting_frame_of h b) ≡ h = ap (λ n. record h { body = n }) letter in
    let P : WaitingHead → Type 0 = λ k. IsInRange (head_wire (head.Waiting k)) in
    record { first = ap (λ k. Some (head.Waiting k)) same; after = ap (drop 1) (sym is.same); ranges = (subst P (sym same) range, is.in_range) }

pub waiting_only : (stocks : Option ℕ) (h : WaitingHead) (rest : List ℕ) (f : Frame) → IsOf stocks (head.Waiting h) rest f
    → (b : Body) × IsBody (h.body ∷ rest) b × (f ≡ Waiting (waiting_frame_of h b))
waiting_only stocks h rest (Waiting x) is =
    let e = waiting_same (waiting_part x) h is.first in
    let bytes : h.body ∷ rest ≡ letter_of_body x.body ∷ body_bytes x.body =
    ap (λ (l : ℕ). l ∷ rest) (sym (ap (λ (y : WaitingHead). y.body) e)) ∙ ap (λ (r : List ℕ). letter_of_body x.body ∷ r) (sym is.after) in
    (x.body, record { same = bytes; in_range = is.ranges.1 }, ap (λ y. Waiting (waiting_frame_of y x.body)) e)
waiting_only stocks h rest f is = absurd (omega (arith, ap kind is.first))

-- ---- stocks

abbrev stock_with : StockHead → ℕ → ℕ → ℕ → StockHead
stock_with h high low offset = record {
  stock = h.stock;
  state = h.state;
  last = h.last;
  matched = h.matched;
  fees_high = high;
  fees_low = low;
  offset = offset;
  live = h.live;
}

abbrev pub stock_frame_of : StockHead → ℤ → ClosingStock
stock_frame_of h fees = record {
  stock = h.stock;
  state = h.state;
  last = h.last;
  matched = h.matched;
  fees = fees;
  offset = cast_signed w64 h.offset;
  live = h.live;
}

stock_same : (a b : StockHead) → Some (head.Stock a) ≡ Some (head.Stock b) → a ≡ b
stock_same a b e = cc

-- a number of these halves
pub record HasHalves (high low : ℕ) (z : ℤ) : Type 0 where
  pub high_is : cast_unsigned w128 z / 2 ^ 64 ≡ high
  pub low_is : cast_unsigned w128 z % 2 ^ 64 ≡ low
  pub fits : FitsSigned w128 z

same_halves : (high low : ℕ) (y z : ℤ) → HasHalves high low y → HasHalves high low z → y ≡ z
same_halves high low y z a b = one_of_halves y z a.fits b.fits (a.high_is ∙ sym b.high_is) (a.low_is ∙ sym b.low_is)

pub stock_is : (stocks : Option ℕ) (h : StockHead) (rest : List ℕ) (fees : ℤ) → rest ≡ [] → HasHalves h.fees_high h.fees_low fees → h.offset < 2 ^ 64
    → IsInRange (head_wire (head.Stock h)) → IsOf stocks (head.Stock h) rest (Stock (stock_frame_of h fees))
stock_is stocks h rest fees none halves offset range =
    let back = cast_unsigned w64 (cast_signed w64 h.offset) in
    let same : stock_part (stock_frame_of h fees) ≡ h =
    ap (λ n. stock_with h n (cast_unsigned w128 fees % 2 ^ 64) back) halves.high_is
    ∙ ap (λ n. stock_with h h.fees_high n back) halves.low_is
    ∙ ap (stock_with h h.fees_high h.fees_low) (of_z-to_z w64 h.offset offset) in
    let P : StockHead → Type 0 = λ k. IsInRange (head_wire (head.Stock k)) in
    record {
      first = ap (λ k. Some (head.Stock k)) same;
      after = sym none;
      ranges = (subst P (sym same) range, halves.fits, sfits_to_z (record { fits = offset }));
    }

pub stock_only : (stocks : Option ℕ) (h : StockHead) (rest : List ℕ) (f : Frame) (fees : ℤ) → HasHalves h.fees_high h.fees_low fees → IsOf stocks (head.Stock h) rest f
    → (rest ≡ []) × (f ≡ Stock (stock_frame_of h fees))
stock_only stocks h rest (Stock x) fees halves is =
    let e = stock_same (stock_part x) h is.first in
    let own : HasHalves h.fees_high h.fees_low x.fees =
    record { high_is = ap (λ (y : StockHead). y.fees_high) e; low_is = ap (λ (y : StockHead). y.fees_low) e; fits = is.ranges.1 } in
    let back : stock_frame_of (stock_part x) x.fees ≡ x = ap (λ z. record x { offset = z }) (to_z-of_z w64 x.offset is.ranges.2) in (
      sym is.after,
      ap Stock (sym back ∙ ap (λ y. stock_frame_of y x.fees) e ∙ ap (stock_frame_of h) (same_halves h.fees_high h.fees_low x.fees fees own halves)),
    )
stock_only stocks h rest f fees halves is = absurd (omega (arith, ap kind is.first))

-- ---- agents

abbrev agent_with : AgentHead → ℕ → ℕ → ℕ → ℕ → ℕ → ℕ → AgentHead
agent_with h silenced cash_high cash_low own_high own_low position = record {
  agent = h.agent;
  silenced = silenced;
  time = h.time;
  tokens = h.tokens;
  draws = h.draws;
  cash_high = cash_high;
  cash_low = cash_low;
  own_cash_high = own_high;
  own_cash_low = own_low;
  own_position = position;
  live = h.live;
  quotes = h.quotes;
}

abbrev pub agent_frame_of : AgentHead → ℤ → ℤ → List ℤ → ClosingAgent
agent_frame_of h cash own_cash positions = record {
  agent = h.agent;
  silenced = h.silenced == 89;
  time = h.time;
  tokens = h.tokens;
  draws = h.draws;
  cash = cash;
  own_cash = own_cash;
  own_position = cast_signed w64 h.own_position;
  live = h.live;
  quotes = h.quotes;
  positions = positions;
}

agent_same : (a b : AgentHead) → Some (head.Agent a) ≡ Some (head.Agent b) → a ≡ b
agent_same a b e = cc

pub record ArePositions (stocks : Option ℕ) (bytes : List ℕ) (ps : List ℤ) : Type 0 where
  pub bytes_are : positions_bytes ps ≡ bytes
  pub fit : All (FitsSigned w64) ps
  pub count : HasPositions stocks ps

pub agent_is : (stocks : Option ℕ) (h : AgentHead) (rest : List ℕ) (cash own_cash : ℤ) (ps : List ℤ) → HasHalves h.cash_high h.cash_low cash
    → HasHalves h.own_cash_high h.own_cash_low own_cash → h.own_position < 2 ^ 64 → letter_of_silence (h.silenced == 89) ≡ h.silenced → ArePositions stocks rest ps
    → IsInRange (head_wire (head.Agent h)) → IsOf stocks (head.Agent h) rest (Agent (agent_frame_of h cash own_cash ps))
agent_is stocks h rest cash own_cash ps halves own_halves position silence positions range =
    let back = cast_unsigned w64 (cast_signed w64 h.own_position) in
    let own_high = cast_unsigned w128 own_cash / 2 ^ 64 in
    let own_low = cast_unsigned w128 own_cash % 2 ^ 64 in
    let same : agent_part (agent_frame_of h cash own_cash ps) ≡ h =
    ap (λ n. agent_with h n (cast_unsigned w128 cash / 2 ^ 64) (cast_unsigned w128 cash % 2 ^ 64) own_high own_low back) silence
    ∙ ap (λ n. agent_with h h.silenced n (cast_unsigned w128 cash % 2 ^ 64) own_high own_low back) halves.high_is
    ∙ ap (λ n. agent_with h h.silenced h.cash_high n own_high own_low back) halves.low_is
    ∙ ap (λ n. agent_with h h.silenced h.cash_high h.cash_low n own_low back) own_halves.high_is
    ∙ ap (λ n. agent_with h h.silenced h.cash_high h.cash_low h.own_cash_high n back) own_halves.low_is
    ∙ ap (agent_with h h.silenced h.cash_high h.cash_low h.own_cash_high h.own_cash_low) (of_z-to_z w64 h.own_position position) in
    let P : AgentHead → Type 0 = λ k. IsInRange (head_wire (head.Agent k)) in
    record {
      first = ap (λ k. Some (head.Agent k)) same;
      after = positions.bytes_are;
      ranges = (subst P (sym same) range, halves.fits, own_halves.fits, sfits_to_z (record { fits = position }), positions.fit, positions.count);
    }

pub agent_only : (stocks : Option ℕ) (h : AgentHead) (rest : List ℕ) (f : Frame) (cash own_cash : ℤ) → HasHalves h.cash_high h.cash_low cash
    → HasHalves h.own_cash_high h.own_cash_low own_cash → IsOf stocks (head.Agent h) rest f
    → (ps : List ℤ) × ArePositions stocks rest ps × (f ≡ Agent (agent_frame_of h cash own_cash ps))
agent_only stocks h rest (Agent x) cash own_cash halves own_halves is =
    let e = agent_same (agent_part x) h is.first in
    let cash_is : HasHalves h.cash_high h.cash_low x.cash =
    record { high_is = ap (λ (y : AgentHead). y.cash_high) e; low_is = ap (λ (y : AgentHead). y.cash_low) e; fits = is.ranges.1 } in
    let own_is : HasHalves h.own_cash_high h.own_cash_low x.own_cash =
    record { high_is = ap (λ (y : AgentHead). y.own_cash_high) e; low_is = ap (λ (y : AgentHead). y.own_cash_low) e; fits = is.ranges.2 } in
    let back : agent_frame_of (agent_part x) x.cash x.own_cash x.positions ≡ x =
    ap (λ p. record (agent_frame_of (agent_part x) x.cash x.own_cash x.positions) { silenced = p }) (silence_back x.silenced)
    ∙ ap (λ z. record x { own_position = z }) (to_z-of_z w64 x.own_position is.ranges.3) in (
      x.positions,
      record { bytes_are = is.after; fit = is.ranges.4; count = is.ranges.5 },
      ap Agent (sym back
          ∙ ap (λ y. agent_frame_of y x.cash x.own_cash x.positions) e
          ∙ ap (λ z. agent_frame_of h z x.own_cash x.positions) (same_halves h.cash_high h.cash_low x.cash cash cash_is halves)
          ∙ ap (λ z. agent_frame_of h cash z x.positions) (same_halves h.own_cash_high h.own_cash_low x.own_cash own_cash own_is own_halves)),
    )
agent_only stocks h rest f cash own_cash halves own_halves is = absurd (omega (arith, ap kind is.first))

pub one_list : (stocks : Option ℕ) (bytes : List ℕ) (ps qs : List ℤ) → ArePositions stocks bytes ps → ArePositions stocks bytes qs → ps ≡ qs
one_list stocks bytes ps qs a b = same_positions ps qs a.fit b.fit (a.bytes_are ∙ sym b.bytes_are)
