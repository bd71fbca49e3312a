-- The fields of each message of ITCH 5.0 in order, behind the letter of its type.
use Rattle.std.specs.Prelude.{List, [], ◌∷◌}
use Rattle.wire_fields.specs.declared.kind.Kind.{Kind}
use Rattle.wire_fields.specs.declared.kind.Kind.TheVariants.{Number, Letters, Text, Side, TradingState}

-- what each message begins with: stock locate, tracking number, timestamp
abbrev pub behind_start : List Kind → List Kind
behind_start kinds = Number 2 ∷ Number 2 ∷ Number 6 ∷ kinds

-- System Event: event code
abbrev pub system_kinds : List Kind
system_kinds = behind_start (Letters 1 ∷ [])

-- Stock Directory: stock, market category, financial status indicator, round lot size, round lots only, issue
-- classification, issue sub-type, authenticity, short sale threshold indicator, IPO flag, LULD reference price tier, ETP
-- flag, ETP leverage factor, inverse indicator
abbrev pub directory_kinds : List Kind
directory_kinds =
    behind_start (Text 8 ∷ Letters 1 ∷ Letters 1 ∷ Number 4 ∷ Letters 1 ∷ Letters 1 ∷ Letters 2 ∷ Letters 1 ∷ Letters 1
    ∷ Letters 1 ∷ Letters 1 ∷ Letters 1 ∷ Number 4 ∷ Letters 1 ∷ [])

-- Stock Trading Action: stock, trading state, reserved, reason
abbrev pub trading_kinds : List Kind
trading_kinds = behind_start (Text 8 ∷ TradingState ∷ Letters 1 ∷ Letters 4 ∷ [])

-- Add Order: order reference number, side, shares, stock, price
abbrev pub add_kinds : List Kind
add_kinds = behind_start (Number 8 ∷ Side ∷ Number 4 ∷ Text 8 ∷ Number 4 ∷ [])

-- Order Executed: order reference number, executed shares, match number
abbrev pub executed_kinds : List Kind
executed_kinds = behind_start (Number 8 ∷ Number 4 ∷ Number 8 ∷ [])

-- Order Cancel: order reference number, canceled shares
abbrev pub cancel_kinds : List Kind
cancel_kinds = behind_start (Number 8 ∷ Number 4 ∷ [])

-- Order Delete: order reference number
abbrev pub delete_kinds : List Kind
delete_kinds = behind_start (Number 8 ∷ [])

-- Trade Message: order reference number, side, shares, stock, price, match number
abbrev pub trade_kinds : List Kind
trade_kinds = behind_start (Number 8 ∷ Side ∷ Number 4 ∷ Text 8 ∷ Number 4 ∷ Number 8 ∷ [])

-- Cross Trade: shares, stock, cross price, match number, cross type
abbrev pub cross_kinds : List Kind
cross_kinds = behind_start (Number 8 ∷ Text 8 ∷ Number 4 ∷ Number 8 ∷ Letters 1 ∷ [])
