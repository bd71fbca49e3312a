-- Messages for worked examples: between the exchange, of latency group 0, and one watcher, of group 1.
use Rattle.std.specs.Prelude.{ℕ, [], ◌∷◌, codes}
use Rattle.market_types.specs.declared.message.Body.{Body}
use Rattle.market_types.specs.declared.message.Message.{Message}
use Rattle.market_types.specs.declared.order.Inbound.{Inbound}
use Rattle.market_types.specs.declared.order.Inbound.TheVariants.{Cancel}
use Rattle.market_floor.specs.declared.opening.Opening.{Opening}
use Rattle.market_floor.specs.OpeningWorked.{market, watcher}
use Rattle.kernel_core.specs.Post.{Post}

abbrev pub two_agents : Opening
two_agents = market 2000 0 (record (watcher 1000) { group = 1 } ∷ [])

-- nothing waits, and this number is the next one
abbrev pub numbered_from : ℕ → Post
numbered_from n = record { waiting = []; next_seq = n; dropped = 0 }

abbrev pub message : ℕ → ℕ → ℕ → ℕ → Body → Message
message time seq from to body = record { time = time; seq = seq; from = from; to = to; body = body }

abbrev pub cancel : Inbound
cancel = Cancel (record { token = record { 0 = codes "T0001000000001" }; shares = 0 })
