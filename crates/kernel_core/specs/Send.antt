-- How what an agent sends, and what an edit injects, joins the waiting messages.
use Rattle.std.specs.Prelude.{ℕ, ◌+◌, List, [], ◌∷◌}
use Rattle.market_types.specs.declared.message.Message.{Message}
use Rattle.market_types.specs.declared.message.Body.TheVariants.{Wake, Order}
use Rattle.market_types.specs.declared.order.Inbound.{Inbound}
use Rattle.latency_model.specs.Tables.{Tables}
use Rattle.latency_model.specs.Latency.{latency_of}
use Rattle.market_floor.specs.declared.opening.Opening.{Opening}
use Rattle.market_floor.specs.declared.posting.Posting.{Posting}
use Rattle.market_floor.specs.declared.posting.Posting.TheVariants.{To, WakeAt}
use Rattle.market_floor.specs.Groups.{group_of}
use Rattle.kernel_core.specs.Post.{Post, joins}

-- how long the message of a number is under way from one agent to another, by the tables in force
abbrev pub under_way : Opening → Tables → ℕ → ℕ → ℕ → ℕ
under_way o groups from to seq = latency_of o.key groups (group_of o from) (group_of o to) seq

-- The message that a posting of an agent becomes under a number. It leaves at the given time and what the posting asks
-- for beyond it, and is due once it was under way. A wakeup is due at the time that the agent asks for, and goes nowhere.
abbrev pub message_of : Opening → Tables → ℕ → ℕ → Posting → ℕ → Message
message_of o groups from leave (To to body extra) seq = record {
  time = leave + extra + under_way o groups from to seq;
  seq = seq;
  from = from;
  to = to;
  body = body;
}
message_of o groups from leave (WakeAt time) seq = record { time = time; seq = seq; from = from; to = from; body = Wake }

-- one posting joins
abbrev pub sent : Opening → Tables → ℕ → ℕ → Post → Posting → Post
sent o groups from leave p x = joins p (message_of o groups from leave x)

-- the postings of a list join in its order
abbrev pub all_sent : Opening → Tables → ℕ → ℕ → Post → List Posting → Post
all_sent o groups from leave p [] = p
all_sent o groups from leave p (x ∷ xs) = all_sent o groups from leave (sent o groups from leave p x) xs

-- an order of a trader that the exchange gets at a time, whatever the latency
abbrev pub order_at : ℕ → ℕ → Inbound → ℕ → Message
order_at from time order seq = record { time = time; seq = seq; from = from; to = 0; body = Order order }

-- an order joins that no trader sent
abbrev pub injected : ℕ → ℕ → Inbound → Post → Post
injected from time order p = joins p (order_at from time order)
