-- Messages for worked examples.
use Rattle.std.specs.Prelude.{ℕ, List, [], ◌∷◌}
use Rattle.market_types.specs.declared.message.Message.{Message}
use Rattle.market_types.specs.declared.message.Body.TheVariants.{Wake}

-- a wakeup of agent 1 that is due at this time under this number
abbrev pub wakeup : ℕ → ℕ → Message
wakeup time seq = record {
  time = time;
  seq = seq;
  from = 1;
  to = 1;
  body = Wake;
}

-- messages 7 and 8 wait
abbrev pub seven_and_eight : List Message
seven_and_eight = wakeup 1008 7 ∷ wakeup 1005 8 ∷ []

-- message 5 once it was put back to the time of message 7
abbrev pub put_back : Message
put_back = wakeup 1008 5

-- the three in order of number
abbrev pub all_three : List Message
all_three = put_back ∷ seven_and_eight
