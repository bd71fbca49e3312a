-- The types of frames, and how a head comes back from its message.
use Rattle.std.specs.Prelude.{◌≡◌, ℕ, ◌==◌, Bool, true, false, List, Some, refl, if◌then◌else◌}
use Rattle.std.proofs.Common.{ap}
use Rattle.market_types.specs.declared.order.Side.{Side}
use Rattle.wire_fields.specs.declared.kind.Kind.{Kind}
use Rattle.wire_fields.specs.Values.{FieldValue}
use Rattle.wire_fields.specs.Wire.{Wire}
use Rattle.wire_fields.specs.Back.{number_in, bytes_in, byte_in, side_in, side_back}
use Rattle.bundle_frames.specs.Layouts.{header_kinds, branch_kinds, event_kinds, edit_kinds, counts_kinds, stock_kinds, order_kinds, agent_kinds, end_kinds, waiting_kinds}
use Rattle.bundle_frames.specs.Wires.{letter_of_order, order_wire}
use Rattle.bundle_frames.specs.declared.closing.ClosingCounts.{ClosingCounts}
use Rattle.bundle_frames.specs.declared.closing.ClosingOrder.{ClosingOrder}
use Rattle.bundle_reader.specs.declared.head.Head.{Head}
use Rattle.bundle_reader.specs.declared.head.Head.TheVariants as head
use Rattle.bundle_reader.specs.declared.head.HeaderHead.{HeaderHead}
use Rattle.bundle_reader.specs.declared.head.BranchHead.{BranchHead}
use Rattle.bundle_reader.specs.declared.head.EventHead.{EventHead}
use Rattle.bundle_reader.specs.declared.head.EditHead.{EditHead}
use Rattle.bundle_reader.specs.declared.head.StockHead.{StockHead}
use Rattle.bundle_reader.specs.declared.head.AgentHead.{AgentHead}
use Rattle.bundle_reader.specs.declared.head.WaitingHead.{WaitingHead}
use Rattle.bundle_reader.specs.declared.head_type.HeadType.{HeadType}
use Rattle.bundle_reader.specs.declared.head_type.HeadType.TheVariants.{Header, Branch, Event, Edit, Counts, Stock, Order, Hidden, Agent, Waiting, End}
use Rattle.bundle_reader.specs.Heads.{head_wire, head_layout}

-- the letter of a type
abbrev pub head_letter : HeadType → ℕ
head_letter Header = 104
head_letter Branch = 98
head_letter Event = 101
head_letter Edit = 100
head_letter Counts = 99
head_letter Stock = 115
head_letter Order = 108
head_letter Hidden = 110
head_letter Agent = 97
head_letter Waiting = 119
head_letter End = 122

-- the fields of a type
abbrev pub head_kinds : HeadType → List Kind
head_kinds Header = header_kinds
head_kinds Branch = branch_kinds
head_kinds Event = event_kinds
head_kinds Edit = edit_kinds
head_kinds Counts = counts_kinds
head_kinds Stock = stock_kinds
head_kinds Order = order_kinds
head_kinds Hidden = order_kinds
head_kinds Agent = agent_kinds
head_kinds Waiting = waiting_kinds
head_kinds End = end_kinds

abbrev pub header_in : List FieldValue → HeaderHead
header_in vs = record { version = number_in vs 0; agents = number_in vs 1; stocks = number_in vs 2; branches = number_in vs 3 }

abbrev pub branch_in : List FieldValue → BranchHead
branch_in vs = record { branch = number_in vs 0; parent = number_in vs 1; stop = number_in vs 2; name_length = byte_in vs 3 }

abbrev pub event_in : List FieldValue → EventHead
event_in vs = record {
  number = number_in vs 0;
  time = number_in vs 1;
  seq = number_in vs 2;
  from = number_in vs 3;
  to = number_in vs 4;
  delivery = byte_in vs 5;
  until = number_in vs 6;
  fee = number_in vs 7;
  body = byte_in vs 8;
}

abbrev pub edit_in : List FieldValue → EditHead
edit_in vs = record {
  events = number_in vs 0;
  time = number_in vs 1;
  branch = number_in vs 2;
  index = number_in vs 3;
  letter = byte_in vs 4;
}

abbrev pub counts_in : List FieldValue → ClosingCounts
counts_in vs = record {
  end = byte_in vs 0;
  events = number_in vs 1;
  time = number_in vs 2;
  next_seq = number_in vs 3;
  waiting = number_in vs 4;
  dropped = number_in vs 5;
  enters = number_in vs 6;
  cancels = number_in vs 7;
  orders = number_in vs 8;
  matches = number_in vs 9;
}

abbrev pub stock_in : List FieldValue → StockHead
stock_in vs = record {
  stock = number_in vs 0;
  state = byte_in vs 1;
  last = number_in vs 2;
  matched = number_in vs 3;
  fees_high = number_in vs 4;
  fees_low = number_in vs 5;
  offset = number_in vs 6;
  live = number_in vs 7;
}

-- the live order of these values, on a side, shown or hidden
abbrev pub order_on : List FieldValue → Side → Bool → ClosingOrder
order_on vs side shown = record {
  reference = number_in vs 0;
  agent = number_in vs 1;
  token = record { 0 = bytes_in vs 2 };
  side = side;
  intended = number_in vs 4;
  left = number_in vs 5;
  stock = number_in vs 6;
  price = number_in vs 7;
  tif = number_in vs 8;
  shown = shown;
}

abbrev pub agent_in : List FieldValue → AgentHead
agent_in vs = record {
  agent = number_in vs 0;
  silenced = byte_in vs 1;
  time = number_in vs 2;
  tokens = number_in vs 3;
  draws = number_in vs 4;
  cash_high = number_in vs 5;
  cash_low = number_in vs 6;
  own_cash_high = number_in vs 7;
  own_cash_low = number_in vs 8;
  own_position = number_in vs 9;
  live = number_in vs 10;
  quotes = number_in vs 11;
}

abbrev pub waiting_in : List FieldValue → WaitingHead
waiting_in vs = record {
  time = number_in vs 0;
  seq = number_in vs 1;
  from = number_in vs 2;
  to = number_in vs 3;
  body = byte_in vs 4;
}

-- the head of a message
abbrev pub head_of : Wire → Head
head_of w =
    if w.letter == 104 then head.Header (header_in w.values) else
    (if w.letter == 98 then head.Branch (branch_in w.values) else
    (if w.letter == 101 then head.Event (event_in w.values) else
    (if w.letter == 100 then head.Edit (edit_in w.values) else
    (if w.letter == 99 then head.Counts (counts_in w.values) else
    (if w.letter == 115 then head.Stock (stock_in w.values) else
    (if w.letter == 108 then head.Order (order_on w.values (side_in w.values 3) true) else
    (if w.letter == 110 then head.Order (order_on w.values (side_in w.values 3) false) else
    (if w.letter == 97 then head.Agent (agent_in w.values) else
    (if w.letter == 119 then head.Waiting (waiting_in w.values) else
    head.End (number_in w.values 0))))))))))

pub head_told : (m : Head) → head_layout (head_wire m).letter ≡ Some (head_wire m).kinds
head_told (head.Header m) = refl
head_told (head.Branch m) = refl
head_told (head.Event m) = refl
head_told (head.Edit m) = refl
head_told (head.Counts m) = refl
head_told (head.Stock m) = refl
head_told (head.Order m) = elim m.shown as (λ (shown : Bool). head_layout (letter_of_order shown) ≡ Some order_kinds) [ true ↦ refl | false ↦ refl ]
head_told (head.Agent m) = refl
head_told (head.Waiting m) = refl
head_told (head.End m) = refl

pub head_back : (m : Head) → head_of (head_wire m) ≡ m
head_back (head.Header m) = refl
head_back (head.Branch m) = refl
head_back (head.Event m) = refl
head_back (head.Edit m) = refl
head_back (head.Counts m) = refl
head_back (head.Stock m) = refl
head_back (head.Order m) =
    elim m.shown as (λ (shown : Bool). head_of (order_wire (record m { shown = shown })) ≡ head.Order (record m { shown = shown })) [
      | true ↦ ap (λ (side : Side). head.Order (order_on (order_wire m).values side true)) (side_back m.side)
      | false ↦ ap (λ (side : Side). head.Order (order_on (order_wire m).values side false)) (side_back m.side)
    ]
head_back (head.Agent m) = refl
head_back (head.Waiting m) = refl
head_back (head.End m) = refl
