-- The fields of each message of OUCH 4.2 in order, behind the letter of its type.
use Rattle.std.specs.Prelude.{List, [], ◌∷◌}
use Rattle.wire_fields.specs.declared.kind.Kind.{Kind}
use Rattle.wire_fields.specs.declared.kind.Kind.TheVariants.{Number, Byte, Letters, Text, Alphanumeric, Side, OrderState}

-- Enter Order: token, side, shares, stock, price, time in force, firm, display, capacity, intermarket sweep eligibility,
-- minimum quantity, cross type, customer type
abbrev pub enter_kinds : List Kind
enter_kinds =
    Alphanumeric 14 ∷ Side ∷ Number 4 ∷ Text 8 ∷ Number 4 ∷ Number 4 ∷ Letters 4 ∷ Letters 1 ∷ Letters 1 ∷ Letters 1
    ∷ Number 4 ∷ Letters 1 ∷ Letters 1 ∷ []

-- Cancel Order: token, shares
abbrev pub cancel_kinds : List Kind
cancel_kinds = Alphanumeric 14 ∷ Number 4 ∷ []

-- System Event: timestamp, event code
abbrev pub system_kinds : List Kind
system_kinds = Number 8 ∷ Letters 1 ∷ []

-- Order Accepted: timestamp, token, side, shares, stock, price, time in force, firm, display, order reference number,
-- capacity, intermarket sweep eligibility, minimum quantity, cross type, order state, BBO weight indicator
abbrev pub accepted_kinds : List Kind
accepted_kinds =
    Number 8 ∷ Alphanumeric 14 ∷ Side ∷ Number 4 ∷ Text 8 ∷ Number 4 ∷ Number 4 ∷ Letters 4 ∷ Letters 1 ∷ Number 8
    ∷ Letters 1 ∷ Letters 1 ∷ Number 4 ∷ Letters 1 ∷ OrderState ∷ Byte ∷ []

-- Canceled Order: timestamp, token, decrement shares, reason
abbrev pub canceled_kinds : List Kind
canceled_kinds = Number 8 ∷ Alphanumeric 14 ∷ Number 4 ∷ Letters 1 ∷ []

-- Executed Order: timestamp, token, executed shares, execution price, liquidity flag, match number
abbrev pub executed_kinds : List Kind
executed_kinds = Number 8 ∷ Alphanumeric 14 ∷ Number 4 ∷ Number 4 ∷ Letters 1 ∷ Number 8 ∷ []

-- Rejected Order: timestamp, token, reason
abbrev pub rejected_kinds : List Kind
rejected_kinds = Number 8 ∷ Alphanumeric 14 ∷ Letters 1 ∷ []
