-- How long a message is on its way.
use Rattle.std.specs.Prelude.{ℕ, ◌+◌, List}
use Rattle.draw_streams.specs.Below.{below_of}
use Rattle.draw_streams.specs.Draw.{draw_of}
use Rattle.latency_model.specs.Tables.{Tables, number_at}

-- the base of the pair, and a number from 0 to its jitter that the word picks
abbrev pub delay_of : Tables → ℕ → ℕ → ℕ → ℕ
delay_of t from to word = number_at t.base from to + below_of word (number_at t.jitter from to + 1)

-- the latency of the message with this sequence number from one group to another: its word is the draw at the place of its
-- number in stream 0
abbrev pub latency_of : List ℕ → Tables → ℕ → ℕ → ℕ → ℕ
latency_of key t from to seq = delay_of t from to (draw_of key 0 seq)
