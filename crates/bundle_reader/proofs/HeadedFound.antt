-- The frame of a head and of what follows it is found.
use Rattle.std.proofs.Common.{◌≡◌, ◌∙◌, ℕ, ◌==◌, nat_le, ◌&&◌, List, [], ◌∷◌, length, Option, Some, None, IfSome, refl, sym, ap, arith}
use Rattle.std.specs.Prelude.{bytes_eq, option_map}
use Rattle.std.proofs.lemmas.Bool.{and_parts, and_from, eqb-true, eq-eqb, leb-true, le-leb}
use Rattle.std.proofs.lemmas.Slice.Eq.{bytes_eq-Decides}
use Rattle.wire_fields.specs.Wire.{IsInRange}
use Rattle.branch_tree.specs.Names.{name_of}
use Rattle.bundle_frames.specs.Layouts.{event_kinds, stock_kinds, agent_kinds}
use Rattle.bundle_frames.specs.Wires.{positions_bytes}
use Rattle.bundle_frames.specs.declared.closing.ClosingCounts.{ClosingCounts}
use Rattle.bundle_frames.specs.declared.closing.ClosingOrder.{ClosingOrder}
use Rattle.bundle_reader.specs.declared.head.Head.{Head}
use Rattle.bundle_reader.specs.declared.head.Head.TheVariants as head
use Rattle.bundle_reader.specs.declared.head.BranchHead.{BranchHead}
use Rattle.bundle_reader.specs.declared.head.EventHead.{EventHead}
use Rattle.bundle_reader.specs.declared.head.EditHead.{EditHead}
use Rattle.bundle_reader.specs.declared.head.StockHead.{StockHead}
use Rattle.bundle_reader.specs.declared.head.AgentHead.{AgentHead}
use Rattle.bundle_reader.specs.declared.frame.Frame.{Frame}
use Rattle.bundle_reader.specs.declared.frame.Frame.TheVariants as frame
use Rattle.bundle_reader.specs.Bodies.{IsBody}
use Rattle.bundle_reader.specs.Heads.{head_wire, event_head, stock_head, agent_head}
use Rattle.bundle_reader.specs.Parts.{IsOf, count_of, is_none}
use Rattle.bundle_reader.proofs.Ranges.{are_in, number_fits, delivery_is, silence_is}
use Rattle.bundle_reader.proofs.FrameKinds.{kind, HasHalves, header_is, header_only, branch_is, branch_only, event_is, event_only, waiting_is, waiting_only, stock_is, stock_only, agent_is, agent_only}
use Rattle.bundle_reader.specs.FramesRead.{headed, alone, branch_of, event_of, stock_of, agent_of, agent_with, waiting_of, body_behind, joined, positions_in}
use Rattle.bundle_reader.proofs.MessageFound.{some_when, when_is, map_is, then_some, then_first}
use Rattle.bundle_reader.proofs.BodyFound.{none_is, body_is, body_found}
use Rattle.bundle_reader.proofs.TwosComplement.{halves_are, positions_are, positions_found}

-- ---- the halves of heads

stock_halves : (h : StockHead) → IsInRange (head_wire (head.Stock h)) → HasHalves h.fees_high h.fees_low (joined h.fees_high h.fees_low)
stock_halves h range =
    let all = are_in stock_kinds (stock_head h).values range in
    halves_are h.fees_high h.fees_low (number_fits h.fees_high all.1.1.1.1.0) (number_fits h.fees_low all.1.1.1.1.1.0)

cash_halves : (h : AgentHead) → IsInRange (head_wire (head.Agent h)) → HasHalves h.cash_high h.cash_low (joined h.cash_high h.cash_low)
cash_halves h range =
    let all = are_in agent_kinds (agent_head h).values range in
    halves_are h.cash_high h.cash_low (number_fits h.cash_high all.1.1.1.1.1.0) (number_fits h.cash_low all.1.1.1.1.1.1.0)

own_halves : (h : AgentHead) → IsInRange (head_wire (head.Agent h)) → HasHalves h.own_cash_high h.own_cash_low (joined h.own_cash_high h.own_cash_low)
own_halves h range =
    let all = are_in agent_kinds (agent_head h).values range in
    halves_are h.own_cash_high h.own_cash_low (number_fits h.own_cash_high all.1.1.1.1.1.1.1.0) (number_fits h.own_cash_low all.1.1.1.1.1.1.1.1.0)

-- ---- what is found is of the head and of what follows

alone_is : (P : Frame → Type 0) (f : Frame) (rest : List ℕ) → (rest ≡ [] → P f) → IfSome (alone f rest) P
alone_is P f rest is = some_when P (is_none rest) f (λ t. is (none_is rest t))

branch_made : (stocks : Option ℕ) (h : BranchHead) (rest : List ℕ) → IsInRange (head_wire (head.Branch h)) → IfSome (headed stocks (head.Branch h) rest) (IsOf stocks (head.Branch h) rest)
branch_made stocks h rest range =
    let P : Frame → Type 0 = λ f. IsOf stocks (head.Branch h) rest f in
    when_is P (length rest == h.name_length) (option_map (branch_of h) (name_of rest))
    (λ l. map_is (λ (n : List ℕ). IsOf stocks (head.Branch h) rest (branch_of h n)) P (branch_of h) (name_of rest)
    (some_when (λ (n : List ℕ). IsOf stocks (head.Branch h) rest (branch_of h n)) (nat_le 1 (length rest) && nat_le (length rest) 32) rest
    (λ t.
    let parts = and_parts (nat_le 1 (length rest)) (nat_le (length rest) 32) t in
    branch_is stocks h rest (eqb-true (length rest) h.name_length l)
    (record { some = leb-true 1 (length rest) parts.0; few = leb-true (length rest) 32 parts.1 }) range))
    (λ n is. is))

event_made : (stocks : Option ℕ) (h : EventHead) (rest : List ℕ) → IsInRange (head_wire (head.Event h)) → IfSome (headed stocks (head.Event h) rest) (IsOf stocks (head.Event h) rest)
event_made stocks h rest range =
    let all = are_in event_kinds (event_head h).values range in
    map_is (IsBody (h.body ∷ rest)) (IsOf stocks (head.Event h) rest) (event_of h) (body_behind h.body rest) (body_is h.body rest)
    (λ b is. event_is stocks h rest b is (number_fits h.fee all.1.1.1.1.1.1.1.0) (delivery_is h.delivery all.1.1.1.1.1.0) range)

stock_made : (stocks : Option ℕ) (h : StockHead) (rest : List ℕ) → IsInRange (head_wire (head.Stock h)) → IfSome (headed stocks (head.Stock h) rest) (IsOf stocks (head.Stock h) rest)
stock_made stocks h rest range =
    let all = are_in stock_kinds (stock_head h).values range in
    alone_is (IsOf stocks (head.Stock h) rest) (stock_of h) rest
    (λ none. stock_is stocks h rest (joined h.fees_high h.fees_low) none (stock_halves h range) (number_fits h.offset all.1.1.1.1.1.1.0) range)

agent_made : (stocks : Option ℕ) (h : AgentHead) (rest : List ℕ) → IsInRange (head_wire (head.Agent h)) → IfSome (headed stocks (head.Agent h) rest) (IsOf stocks (head.Agent h) rest)
agent_made stocks h rest range =
    let all = are_in agent_kinds (agent_head h).values range in
    let ps = positions_in (count_of stocks (length rest)) rest in
    some_when (IsOf stocks (head.Agent h) rest) (bytes_eq (positions_bytes ps) rest) (agent_of h ps)
    (λ t.
    agent_is stocks h rest (joined h.cash_high h.cash_low) (joined h.own_cash_high h.own_cash_low) ps (cash_halves h range) (own_halves h range)
    (number_fits h.own_position all.1.1.1.1.1.1.1.1.1.0) (silence_is h.silenced all.1.0)
    (positions_are stocks rest ((bytes_eq-Decides (positions_bytes ps) rest).0 t)) range)

pub headed_is : (stocks : Option ℕ) (h : Head) (rest : List ℕ) → IsInRange (head_wire h) → IfSome (headed stocks h rest) (IsOf stocks h rest)
headed_is stocks (head.Header h) rest range =
    some_when (IsOf stocks (head.Header h) rest) ((h.version == 1) && is_none rest) (frame.Header (record { agents = h.agents; stocks = h.stocks; branches = h.branches }))
    (λ t.
    let parts = and_parts (h.version == 1) (is_none rest) t in
    header_is stocks h rest (eqb-true h.version 1 parts.0) (none_is rest parts.1) range)
headed_is stocks (head.Branch h) rest range = branch_made stocks h rest range
headed_is stocks (head.Event h) rest range = event_made stocks h rest range
headed_is stocks (head.Edit h) rest range =
    alone_is (IsOf stocks (head.Edit h) rest) (frame.Edit h) rest (λ none. record { first = refl; after = sym none; ranges = range })
headed_is stocks (head.Counts h) rest range =
    alone_is (IsOf stocks (head.Counts h) rest) (frame.Counts h) rest (λ none. record { first = refl; after = sym none; ranges = range })
headed_is stocks (head.Stock h) rest range = stock_made stocks h rest range
headed_is stocks (head.Order h) rest range =
    alone_is (IsOf stocks (head.Order h) rest) (frame.Order h) rest (λ none. record { first = refl; after = sym none; ranges = range })
headed_is stocks (head.Agent h) rest range = agent_made stocks h rest range
headed_is stocks (head.Waiting h) rest range =
    map_is (IsBody (h.body ∷ rest)) (IsOf stocks (head.Waiting h) rest) (waiting_of h) (body_behind h.body rest) (body_is h.body rest)
    (λ b is. waiting_is stocks h rest b is range)
headed_is stocks (head.End n) rest range =
    alone_is (IsOf stocks (head.End n) rest) (frame.End n) rest (λ none. record { first = refl; after = sym none; ranges = range })

-- ---- what is of a head and of what follows is found

same_edit : (a b : EditHead) → Some (head.Edit a) ≡ Some (head.Edit b) → a ≡ b
same_edit a b e = cc

same_counts : (a b : ClosingCounts) → Some (head.Counts a) ≡ Some (head.Counts b) → a ≡ b
same_counts a b e = cc

same_order : (a b : ClosingOrder) → Some (head.Order a) ≡ Some (head.Order b) → a ≡ b
same_order a b e = cc

same_end : (a b : ℕ) → Some (head.End a) ≡ Some (head.End b) → a ≡ b
same_end a b e = cc

alone_found : (f : Frame) (rest : List ℕ) → [] ≡ rest → alone f rest ≡ Some f
alone_found f rest none = then_some (is_none rest) f (ap is_none (sym none))

edit_found : (stocks : Option ℕ) (h : EditHead) (rest : List ℕ) (f : Frame) → IsOf stocks (head.Edit h) rest f → alone (frame.Edit h) rest ≡ Some f
edit_found stocks h rest (frame.Edit x) is = alone_found (frame.Edit h) rest is.after ∙ ap (λ y. Some (frame.Edit y)) (sym (same_edit x h is.first))
edit_found stocks h rest f is = absurd (omega (arith, ap kind is.first))

counts_found : (stocks : Option ℕ) (h : ClosingCounts) (rest : List ℕ) (f : Frame) → IsOf stocks (head.Counts h) rest f → alone (frame.Counts h) rest ≡ Some f
counts_found stocks h rest (frame.Counts x) is = alone_found (frame.Counts h) rest is.after ∙ ap (λ y. Some (frame.Counts y)) (sym (same_counts x h is.first))
counts_found stocks h rest f is = absurd (omega (arith, ap kind is.first))

order_found : (stocks : Option ℕ) (h : ClosingOrder) (rest : List ℕ) (f : Frame) → IsOf stocks (head.Order h) rest f → alone (frame.Order h) rest ≡ Some f
order_found stocks h rest (frame.Order x) is = alone_found (frame.Order h) rest is.after ∙ ap (λ y. Some (frame.Order y)) (sym (same_order x h is.first))
order_found stocks h rest f is = absurd (omega (arith, ap kind is.first))

end_found : (stocks : Option ℕ) (h : ℕ) (rest : List ℕ) (f : Frame) → IsOf stocks (head.End h) rest f → alone (frame.End h) rest ≡ Some f
end_found stocks h rest (frame.End x) is = alone_found (frame.End h) rest is.after ∙ ap (λ y. Some (frame.End y)) (sym (same_end x h is.first))
end_found stocks h rest f is = absurd (omega (arith, ap kind is.first))

branch_found : (stocks : Option ℕ) (h : BranchHead) (rest : List ℕ) (f : Frame) → IsOf stocks (head.Branch h) rest f → headed stocks (head.Branch h) rest ≡ Some f
branch_found stocks h rest f is =
    let only = branch_only stocks h rest f is in
    let named : name_of rest ≡ Some rest =
    then_some (nat_le 1 (length rest) && nat_le (length rest) 32) rest
    (and_from (nat_le 1 (length rest)) (nat_le (length rest) 32) (le-leb 1 (length rest) only.1.some) (le-leb (length rest) 32 only.1.few)) in
    then_first (length rest == h.name_length) (option_map (branch_of h) (name_of rest)) None (eq-eqb (length rest) h.name_length only.0)
    ∙ ap (option_map (branch_of h)) named
    ∙ ap Some (sym only.2)

agent_found : (stocks : Option ℕ) (h : AgentHead) (rest : List ℕ) (f : Frame) → IsInRange (head_wire (head.Agent h)) → IsOf stocks (head.Agent h) rest f → headed stocks (head.Agent h) rest ≡ Some f
agent_found stocks h rest f range is =
    let only = agent_only stocks h rest f (joined h.cash_high h.cash_low) (joined h.own_cash_high h.own_cash_low) (cash_halves h range) (own_halves h range) is in
    ap (agent_with h rest) (positions_found stocks rest only.0 only.1)
    ∙ then_some (bytes_eq (positions_bytes only.0) rest) (agent_of h only.0) ((bytes_eq-Decides (positions_bytes only.0) rest).1 only.1.bytes_are)
    ∙ ap Some (sym only.2)

pub headed_found : (stocks : Option ℕ) (h : Head) (rest : List ℕ) (f : Frame) → IsInRange (head_wire h) → IsOf stocks h rest f → headed stocks h rest ≡ Some f
headed_found stocks (head.Header h) rest f range is =
    let only = header_only stocks h rest f is in
    then_some ((h.version == 1) && is_none rest) (frame.Header (record { agents = h.agents; stocks = h.stocks; branches = h.branches }))
    (and_from (h.version == 1) (is_none rest) (eq-eqb h.version 1 only.0) (ap is_none only.1))
    ∙ ap Some (sym only.2)
headed_found stocks (head.Branch h) rest f range is = branch_found stocks h rest f is
headed_found stocks (head.Event h) rest f range is =
    let only = event_only stocks h rest f is in
    ap (option_map (event_of h)) (body_found h.body rest only.0 only.1) ∙ ap Some (sym only.2)
headed_found stocks (head.Edit h) rest f range is = edit_found stocks h rest f is
headed_found stocks (head.Counts h) rest f range is = counts_found stocks h rest f is
headed_found stocks (head.Stock h) rest f range is =
    let only = stock_only stocks h rest f (joined h.fees_high h.fees_low) (stock_halves h range) is in
    alone_found (stock_of h) rest (sym only.0) ∙ ap Some (sym only.1)
headed_found stocks (head.Order h) rest f range is = order_found stocks h rest f is
headed_found stocks (head.Agent h) rest f range is = agent_found stocks h rest f range is
headed_found stocks (head.Waiting h) rest f range is =
    let only = waiting_only stocks h rest f is in
    ap (option_map (waiting_of h)) (body_found h.body rest only.0 only.1) ∙ ap Some (sym only.2)
headed_found stocks (head.End n) rest f range is = end_found stocks n rest f is
