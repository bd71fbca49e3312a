-- How many messages an exchange met.
use Rattle.std.specs.Prelude.{ℕ, ◌+◌, List, [], ◌∷◌}
use Rattle.exchange_agent.specs.Runs.{Act, message, change}

-- how many of these are messages
abbrev pub messages_in : List Act → ℕ
messages_in [] = 0
messages_in (message time from b ∷ acts) = messages_in acts + 1
messages_in (change time stock c ∷ acts) = messages_in acts
