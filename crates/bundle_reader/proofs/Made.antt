-- Frames as the reader makes them, of numbers that came through signed ones.
use Rattle.std.proofs.Common.{◌≡◌, ◌∙◌, ℕ, ◌*◌, ◌/◌, ◌%◌, ◌^◌, ◌<◌, List, [], ◌∷◌, length, Option, Some, None, sym, ap, subst, arith}
use Rattle.std.specs.Prelude.{ℤ, All}
use Rattle.std.specs.Int.{cast_unsigned, cast_signed, w64, w128}
use Rattle.std.specs.Int.RustNames.{FitsSigned}
use Rattle.std.proofs.Math.Facts.{sfits_to_z}
use Rattle.std.proofs.lemmas.Int.{of_z-to_z}
use Rattle.market_types.specs.declared.message.Body.{Body}
use Rattle.wire_fields.specs.Wire.{IsInRange}
use Rattle.bundle_frames.specs.Layouts.{event_kinds, stock_kinds, agent_kinds}
use Rattle.bundle_frames.specs.Wires.{positions_bytes}
use Rattle.bundle_frames.specs.declared.closing.ClosingStock.{ClosingStock}
use Rattle.bundle_frames.specs.declared.closing.ClosingAgent.{ClosingAgent}
use Rattle.bundle_reader.specs.declared.head.Head.TheVariants as head
use Rattle.bundle_reader.specs.declared.head.EventHead.{EventHead}
use Rattle.bundle_reader.specs.declared.head.StockHead.{StockHead}
use Rattle.bundle_reader.specs.declared.head.AgentHead.{AgentHead}
use Rattle.bundle_reader.specs.Heads.{head_wire, event_head, stock_head, agent_head}
use Rattle.bundle_reader.specs.Bodies.{IsBody}
use Rattle.bundle_reader.specs.declared.frame.Frame.{Frame}
use Rattle.bundle_reader.specs.declared.frame.Frame.TheVariants.{Event, Stock, Agent}
use Rattle.bundle_reader.specs.Frames.{HasPositions}
use Rattle.bundle_reader.specs.Parts.{IsOf, count_of}
use Rattle.bundle_reader.proofs.Signed.{length-positions}
use Rattle.bundle_reader.proofs.Ranges.{are_in, number_fits, delivery_is, silence_is}
use Rattle.bundle_reader.proofs.FrameKinds.{kind, HasHalves, ArePositions, event_frame_of, event_is, stock_frame_of, stock_is, stock_only, agent_frame_of, agent_is, agent_only, one_list}

-- a number that was made signed and is so again
signed_again : (z : ℤ) (n : ℕ) → n < 2 ^ 64 → z ≡ cast_signed w64 n → cast_signed w64 (cast_unsigned w64 z) ≡ cast_signed w64 n
signed_again z n lt e = ap (λ y. cast_signed w64 (cast_unsigned w64 y)) e ∙ ap (cast_signed w64) (of_z-to_z w64 n lt)

-- ---- events

pub event_made : (stocks : Option ℕ) (h : EventHead) (rest bytes : List ℕ) (b : Body) (fee : ℤ) → IsBody bytes b → bytes ≡ h.body ∷ rest → fee ≡ cast_signed w64 h.fee
    → IsInRange (head_wire (head.Event h)) → IsOf stocks (head.Event h) rest (Event (record (event_frame_of h b) { fee = cast_signed w64 (cast_unsigned w64 fee) }))
event_made stocks h rest bytes b fee is bytes_are fee_is range =
    let all = are_in event_kinds (event_head h).values range in
    let P : ℤ → Type 0 = λ z. IsOf stocks (head.Event h) rest (Event (record (event_frame_of h b) { fee = z })) in
    let Q : List ℕ → Type 0 = λ l. IsBody l b in
    let lt = number_fits h.fee all.1.1.1.1.1.1.1.0 in
    subst P (sym (signed_again fee h.fee lt fee_is)) (event_is stocks h rest b (subst Q bytes_are is) lt (delivery_is h.delivery all.1.1.1.1.1.0) range)

-- ---- stocks

-- a number of sixteen bytes that was joined of its halves and is so again
halves_again : (high low : ℕ) (z : ℤ) → high < 2 ^ 64 → cast_unsigned w128 z / 2 ^ 64 ≡ high → cast_unsigned w128 z % 2 ^ 64 ≡ low
    → HasHalves high low (cast_signed w128 (cast_unsigned w128 z))
halves_again high low z few high_is low_is =
    let n = cast_unsigned w128 z in
    let lt : n < 2 ^ 128 = omega arith in
    let back : cast_unsigned w128 (cast_signed w128 n) ≡ n = of_z-to_z w128 n lt in
    record {
      high_is = ap (λ (m : ℕ). m / 2 ^ 64) back ∙ high_is;
      low_is = ap (λ (m : ℕ). m % 2 ^ 64) back ∙ low_is;
      fits = sfits_to_z (record { fits = lt });
    }

-- the stock of these numbers, which came through their bits
abbrev pub stock_of : StockHead → ℤ → ℤ → ClosingStock
stock_of h fees offset = record (stock_frame_of h (cast_signed w128 (cast_unsigned w128 fees))) { offset = cast_signed w64 (cast_unsigned w64 offset) }

-- what was read of the head of a stock
pub record StockRead (h : StockHead) (fees offset : ℤ) : Type 0 where
  pub high : cast_unsigned w128 fees / 2 ^ 64 ≡ h.fees_high
  pub low : cast_unsigned w128 fees % 2 ^ 64 ≡ h.fees_low
  pub offset_is : offset ≡ cast_signed w64 h.offset
  pub range : IsInRange (head_wire (head.Stock h))

stock_halves : (h : StockHead) (fees offset : ℤ) → StockRead h fees offset → HasHalves h.fees_high h.fees_low (cast_signed w128 (cast_unsigned w128 fees))
stock_halves h fees offset read =
    let all = are_in stock_kinds (stock_head h).values read.range in
    halves_again h.fees_high h.fees_low fees (number_fits h.fees_high all.1.1.1.1.0) read.high read.low

offset_fits : (h : StockHead) → IsInRange (head_wire (head.Stock h)) → h.offset < 2 ^ 64
offset_fits h range =
    let all = are_in stock_kinds (stock_head h).values range in number_fits h.offset all.1.1.1.1.1.1.0

pub stock_made : (stocks : Option ℕ) (h : StockHead) (rest : List ℕ) (fees offset : ℤ) → rest ≡ [] → StockRead h fees offset
    → IsOf stocks (head.Stock h) rest (Stock (stock_of h fees offset))
stock_made stocks h rest fees offset none read =
    let fees_now = cast_signed w128 (cast_unsigned w128 fees) in
    let lt = offset_fits h read.range in
    let P : ℤ → Type 0 = λ z. IsOf stocks (head.Stock h) rest (Stock (record (stock_frame_of h fees_now) { offset = z })) in
    subst P (sym (signed_again offset h.offset lt read.offset_is)) (stock_is stocks h rest fees_now none (stock_halves h fees offset read) lt read.range)

pub stock_alone : (stocks : Option ℕ) (h : StockHead) (rest : List ℕ) (fees offset : ℤ) → StockRead h fees offset
    → (f : Frame) → IsOf stocks (head.Stock h) rest f → Some (Stock (stock_of h fees offset)) ≡ Some f
stock_alone stocks h rest fees offset read f is =
    let fees_now = cast_signed w128 (cast_unsigned w128 fees) in
    let only = stock_only stocks h rest f fees_now (stock_halves h fees offset read) is in
    ap (λ (z : ℤ). Some (Stock (record (stock_frame_of h fees_now) { offset = z }))) (signed_again offset h.offset (offset_fits h read.range) read.offset_is)
    ∙ ap (λ (x : Frame). Some x) (sym only.1)

-- ---- agents

has_positions : (stocks : Option ℕ) (n count : ℕ) (ps : List ℤ) → count ≡ count_of stocks n → length ps ≡ count → HasPositions stocks ps
has_positions None n count ps is len = tt
has_positions (Some s) n count ps is len = len ∙ is

count_same : (stocks : Option ℕ) (ps : List ℤ) (n : ℕ) → HasPositions stocks ps → n ≡ 8 * length ps → n ≡ 8 * count_of stocks n
count_same None ps n has e = omega arith
count_same (Some s) ps n has e = e ∙ ap (λ k. 8 * k) has

-- an agent has as many bytes of positions as that
pub agent_length : (stocks : Option ℕ) (h : AgentHead) (rest : List ℕ) (f : Frame) → IsOf stocks (head.Agent h) rest f → length rest ≡ 8 * count_of stocks (length rest)
agent_length stocks h rest (Agent x) is =
    count_same stocks x.positions (length rest) is.ranges.5 (ap length (sym is.after) ∙ length-positions x.positions)
agent_length stocks h rest f is = absurd (omega (arith, ap kind is.first))

-- what was read behind the head of an agent
pub record AgentRead (stocks : Option ℕ) (h : AgentHead) (rest : List ℕ) (count : ℕ) (cash own_cash position : ℤ) (ps : List ℤ) : Type 0 where
  pub cash_high : cast_unsigned w128 cash / 2 ^ 64 ≡ h.cash_high
  pub cash_low : cast_unsigned w128 cash % 2 ^ 64 ≡ h.cash_low
  pub own_high : cast_unsigned w128 own_cash / 2 ^ 64 ≡ h.own_cash_high
  pub own_low : cast_unsigned w128 own_cash % 2 ^ 64 ≡ h.own_cash_low
  pub position_is : position ≡ cast_signed w64 h.own_position
  pub count_is : count ≡ count_of stocks (length rest)
  pub bytes_are : positions_bytes ps ≡ rest
  pub length_is : length ps ≡ count
  pub fit : All (FitsSigned w64) ps
  pub range : IsInRange (head_wire (head.Agent h))

-- the agent of these numbers, which came through their bits
abbrev pub agent_of : AgentHead → ℤ → ℤ → ℤ → List ℤ → ClosingAgent
agent_of h cash own_cash position ps =
    record (agent_frame_of h (cast_signed w128 (cast_unsigned w128 cash)) (cast_signed w128 (cast_unsigned w128 own_cash)) ps) {
      own_position = cast_signed w64 (cast_unsigned w64 position);
    }

-- the halves and the positions
record AgentParts (stocks : Option ℕ) (h : AgentHead) (rest : List ℕ) (cash own_cash position : ℤ) (ps : List ℤ) : Type 0 where
  cash_is : HasHalves h.cash_high h.cash_low (cast_signed w128 (cast_unsigned w128 cash))
  own_is : HasHalves h.own_cash_high h.own_cash_low (cast_signed w128 (cast_unsigned w128 own_cash))
  fits : h.own_position < 2 ^ 64
  position_is : cast_signed w64 (cast_unsigned w64 position) ≡ cast_signed w64 h.own_position
  positions_are : ArePositions stocks rest ps

agent_parts : (stocks : Option ℕ) (h : AgentHead) (rest : List ℕ) (count : ℕ) (cash own_cash position : ℤ) (ps : List ℤ) → AgentRead stocks h rest count cash own_cash position ps
    → AgentParts stocks h rest cash own_cash position ps
agent_parts stocks h rest count cash own_cash position ps read =
    let all = are_in agent_kinds (agent_head h).values read.range in
    let lt = number_fits h.own_position all.1.1.1.1.1.1.1.1.1.0 in
    record {
      cash_is = halves_again h.cash_high h.cash_low cash (number_fits h.cash_high all.1.1.1.1.1.0) read.cash_high read.cash_low;
      own_is = halves_again h.own_cash_high h.own_cash_low own_cash (number_fits h.own_cash_high all.1.1.1.1.1.1.1.0) read.own_high read.own_low;
      fits = lt;
      position_is = signed_again position h.own_position lt read.position_is;
      positions_are = record { bytes_are = read.bytes_are; fit = read.fit; count = has_positions stocks (length rest) count ps read.count_is read.length_is };
    }

pub agent_made : (stocks : Option ℕ) (h : AgentHead) (rest : List ℕ) (count : ℕ) (cash own_cash position : ℤ) (ps : List ℤ) → AgentRead stocks h rest count cash own_cash position ps
    → IsOf stocks (head.Agent h) rest (Agent (agent_of h cash own_cash position ps))
agent_made stocks h rest count cash own_cash position ps read =
    let all = are_in agent_kinds (agent_head h).values read.range in
    let parts = agent_parts stocks h rest count cash own_cash position ps read in
    let cash_now = cast_signed w128 (cast_unsigned w128 cash) in
    let own_now = cast_signed w128 (cast_unsigned w128 own_cash) in
    let P : ℤ → Type 0 = λ z. IsOf stocks (head.Agent h) rest (Agent (record (agent_frame_of h cash_now own_now ps) { own_position = z })) in
    subst P (sym parts.position_is)
    (agent_is stocks h rest cash_now own_now ps parts.cash_is parts.own_is parts.fits (silence_is h.silenced all.1.0) parts.positions_are read.range)

pub agent_alone : (stocks : Option ℕ) (h : AgentHead) (rest : List ℕ) (count : ℕ) (cash own_cash position : ℤ) (ps : List ℤ) → AgentRead stocks h rest count cash own_cash position ps
    → (f : Frame) → IsOf stocks (head.Agent h) rest f → Some (Agent (agent_of h cash own_cash position ps)) ≡ Some f
agent_alone stocks h rest count cash own_cash position ps read f is =
    let parts = agent_parts stocks h rest count cash own_cash position ps read in
    let cash_now = cast_signed w128 (cast_unsigned w128 cash) in
    let own_now = cast_signed w128 (cast_unsigned w128 own_cash) in
    let only = agent_only stocks h rest f cash_now own_now parts.cash_is parts.own_is is in
    ap (λ (z : ℤ). Some (Agent (record (agent_frame_of h cash_now own_now ps) { own_position = z }))) parts.position_is
    ∙ ap (λ (l : List ℤ). Some (Agent (agent_frame_of h cash_now own_now l))) (one_list stocks rest ps only.0 parts.positions_are only.1)
    ∙ ap (λ (x : Frame). Some x) (sym only.2)
