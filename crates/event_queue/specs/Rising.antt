-- Messages whose sequence numbers rise.
use Rattle.std.specs.Prelude.{◌<◌, List, [], ◌∷◌}
use Rattle.std.specs.List.{AllByRecursion}
use Rattle.market_types.specs.declared.message.Message.{Message}

-- each number is below all that follow it
abbrev pub IsRising : List Message → Type 0
IsRising [] = Unit {0}
IsRising (x ∷ w) = AllByRecursion (λ (y : Message). x.seq < y.seq) w × IsRising w
