-- The fields of each frame of a bundle in order, behind the letter of its kind. A signed number of sixteen bytes is two
-- numbers of eight, the higher half first.
use Rattle.std.specs.Prelude.{List, [], ◌∷◌, codes}
use Rattle.wire_fields.specs.declared.kind.Kind.{Kind}
use Rattle.wire_fields.specs.declared.kind.Kind.TheVariants.{Number, Byte, Bytes, Either, OneOf, Side}

-- `h`: version, agents with the exchange, stocks, branches
abbrev pub header_kinds : List Kind
header_kinds = Number 2 ∷ Number 2 ∷ Number 2 ∷ Number 2 ∷ []

-- `b` before the name: number, parent, stop, length of the name
abbrev pub branch_kinds : List Kind
branch_kinds = Number 2 ∷ Number 2 ∷ Number 4 ∷ Byte ∷ []

-- `e` before the body: event, time, message's number, sender, receiver, delivered or put back, own time afterwards, fee,
-- kind of body
abbrev pub event_kinds : List Kind
event_kinds =
    Number 4 ∷ Number 8 ∷ Number 8 ∷ Number 2 ∷ Number 2 ∷ Either (codes "DP") ∷ Number 8 ∷ Number 8 ∷ OneOf (codes "wioaq") ∷ []

-- the body of a question: stock
abbrev pub ask_kinds : List Kind
ask_kinds = Number 2 ∷ []

-- the body of a quote: stock, state, bid, bid shares, ask, ask shares, last price
abbrev pub quote_kinds : List Kind
quote_kinds = Number 2 ∷ Byte ∷ Number 4 ∷ Number 8 ∷ Number 4 ∷ Number 8 ∷ Number 4 ∷ []

-- `d`: events before it, time, branch, index, letter
abbrev pub edit_kinds : List Kind
edit_kinds = Number 4 ∷ Number 8 ∷ Number 2 ∷ Number 2 ∷ Byte ∷ []

-- `c`: end, events, time, next message's number, waiting, dropped, ignored enters, ignored cancels, orders, matches
abbrev pub counts_kinds : List Kind
counts_kinds =
    Byte ∷ Number 4 ∷ Number 8 ∷ Number 8 ∷ Number 4 ∷ Number 8 ∷ Number 8 ∷ Number 8 ∷ Number 8 ∷ Number 8 ∷ []

-- `s`: stock, state, last price, matched shares, both halves of the fees, series offset, live orders
abbrev pub stock_kinds : List Kind
stock_kinds = Number 2 ∷ Byte ∷ Number 4 ∷ Number 8 ∷ Number 8 ∷ Number 8 ∷ Number 8 ∷ Number 4 ∷ []

-- `l`: reference, agent, token as it stands, side, intended, open, stock, price, time in force
abbrev pub order_kinds : List Kind
order_kinds = Number 8 ∷ Number 2 ∷ Bytes 14 ∷ Side ∷ Number 4 ∷ Number 4 ∷ Number 2 ∷ Number 4 ∷ Number 4 ∷ []

-- `a` before the positions: agent, silenced or not, own time, tokens, draws, both halves of the settled cash, both halves of
-- the own cash, own position, live orders, quotes
abbrev pub agent_kinds : List Kind
agent_kinds =
    Number 2 ∷ Either (codes "YN") ∷ Number 8 ∷ Number 4 ∷ Number 8 ∷ Number 8 ∷ Number 8 ∷ Number 8 ∷ Number 8 ∷ Number 8
    ∷ Number 2 ∷ Number 4 ∷ []

-- one position
abbrev pub position_kinds : List Kind
position_kinds = Number 8 ∷ []

-- `z`: branches
abbrev pub end_kinds : List Kind
end_kinds = Number 2 ∷ []

-- `w` before the body: when it is due, message's number, sender, receiver, kind of body
abbrev pub waiting_kinds : List Kind
waiting_kinds = Number 8 ∷ Number 8 ∷ Number 2 ∷ Number 2 ∷ OneOf (codes "wioaq") ∷ []
