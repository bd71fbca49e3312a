-- A message for worked examples.
use Rattle.std.specs.Prelude.{ℕ}
use Rattle.market_types.specs.declared.message.Body.{Body}
use Rattle.market_types.specs.declared.message.Message.{Message}

-- a message of this time, number and body
abbrev pub worked_message : ℕ → ℕ → Body → Message
worked_message time seq body = record { time = time; seq = seq; from = 0x2122; to = 0x2324; body = body }
