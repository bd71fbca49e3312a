-- The fixed fields of a bundle's frames as messages.
use Rattle.std.specs.Prelude.{◌≡◌, ℕ, ◌==◌, List, [], ◌∷◌, ◌++◌, Option, Some, None, codes, if◌then◌else◌}
use Rattle.wire_fields.specs.declared.kind.Kind.{Kind}
use Rattle.wire_fields.specs.declared.kind.Kind.TheVariants.{Number, OneOf}
use Rattle.wire_fields.specs.Values.{number}
use Rattle.wire_fields.specs.Wire.{Wire, IsInRange, spelling}
use Rattle.bundle_frames.specs.Layouts.{header_kinds, branch_kinds, event_kinds, edit_kinds, counts_kinds, stock_kinds, order_kinds, agent_kinds, end_kinds, waiting_kinds}
use Rattle.bundle_frames.specs.Wires.{byte, counts_wire, order_wire, end_wire}
use Rattle.bundle_reader.specs.declared.head.Head.{Head}
use Rattle.bundle_reader.specs.declared.head.Head.TheVariants.{Header, Branch, Event, Edit, Counts, Stock, Order, Agent, Waiting, End}
use Rattle.bundle_reader.specs.declared.head.HeaderHead.{HeaderHead}
use Rattle.bundle_reader.specs.declared.head.BranchHead.{BranchHead}
use Rattle.bundle_reader.specs.declared.head.EventHead.{EventHead}
use Rattle.bundle_reader.specs.declared.head.EditHead.{EditHead}
use Rattle.bundle_reader.specs.declared.head.StockHead.{StockHead}
use Rattle.bundle_reader.specs.declared.head.AgentHead.{AgentHead}
use Rattle.bundle_reader.specs.declared.head.WaitingHead.{WaitingHead}

abbrev pub header_head : HeaderHead → Wire
header_head h = record {
  letter = 104;
  kinds = header_kinds;
  values = number h.version ∷ number h.agents ∷ number h.stocks ∷ number h.branches ∷ [];
}

abbrev pub branch_head : BranchHead → Wire
branch_head b = record {
  letter = 98;
  kinds = branch_kinds;
  values = number b.branch ∷ number b.parent ∷ number b.stop ∷ byte b.name_length ∷ [];
}

abbrev pub event_head : EventHead → Wire
event_head e = record {
  letter = 101;
  kinds = event_kinds;
  values =
      number e.number ∷ number e.time ∷ number e.seq ∷ number e.from ∷ number e.to ∷ byte e.delivery ∷ number e.until
      ∷ number e.fee ∷ byte e.body ∷ [];
}

abbrev pub edit_head : EditHead → Wire
edit_head e = record {
  letter = 100;
  kinds = edit_kinds;
  values = number e.events ∷ number e.time ∷ number e.branch ∷ number e.index ∷ byte e.letter ∷ [];
}

abbrev pub stock_head : StockHead → Wire
stock_head s = record {
  letter = 115;
  kinds = stock_kinds;
  values =
      number s.stock ∷ byte s.state ∷ number s.last ∷ number s.matched ∷ number s.fees_high ∷ number s.fees_low
      ∷ number s.offset ∷ number s.live ∷ [];
}

abbrev pub agent_head : AgentHead → Wire
agent_head a = record {
  letter = 97;
  kinds = agent_kinds;
  values =
      number a.agent ∷ byte a.silenced ∷ number a.time ∷ number a.tokens ∷ number a.draws ∷ number a.cash_high
      ∷ number a.cash_low ∷ number a.own_cash_high ∷ number a.own_cash_low ∷ number a.own_position ∷ number a.live
      ∷ number a.quotes ∷ [];
}

abbrev pub waiting_head : WaitingHead → Wire
waiting_head w = record {
  letter = 119;
  kinds = waiting_kinds;
  values = number w.time ∷ number w.seq ∷ number w.from ∷ number w.to ∷ byte w.body ∷ [];
}

-- the head of a frame as a message
abbrev pub head_wire : Head → Wire
head_wire (Header h) = header_head h
head_wire (Branch b) = branch_head b
head_wire (Event e) = event_head e
head_wire (Edit e) = edit_head e
head_wire (Counts c) = counts_wire c
head_wire (Stock s) = stock_head s
head_wire (Order o) = order_wire o
head_wire (Agent a) = agent_head a
head_wire (Waiting w) = waiting_head w
head_wire (End branches) = end_wire branches

-- the fields of the head of a letter, as above
abbrev pub head_layout : ℕ → Option (List Kind)
head_layout letter =
    if letter == 104 then Some header_kinds else
    (if letter == 98 then Some branch_kinds else
    (if letter == 101 then Some event_kinds else
    (if letter == 100 then Some edit_kinds else
    (if letter == 99 then Some counts_kinds else
    (if letter == 115 then Some stock_kinds else
    (if letter == 108 then Some order_kinds else
    (if letter == 110 then Some order_kinds else
    (if letter == 97 then Some agent_kinds else
    (if letter == 119 then Some waiting_kinds else
    (if letter == 122 then Some end_kinds else None))))))))))

-- A payload begins with this head, each of whose fields is in its range, and the rest follows.
pub record IsLed (payload : List ℕ) (h : Head) (rest : List ℕ) : Type 0 where
  pub same : payload ≡ spelling (head_wire h) ++ rest
  pub in_range : IsInRange (head_wire h)
