-- Numbered draws: each draw is one 32-bit word of a ChaCha20 key stream, found by its number.
use Rattle.std.specs.Prelude.{ℕ, List}
use Rattle.rand_chacha.specs.ChaCha.{word_at, key_of}

-- ChaCha20 has twenty rounds: ten pairs of a column round and a diagonal round
abbrev pub round_pairs : ℕ
round_pairs = 10

-- the draw with this number in this stream under a key of 32 bytes: word `place` of the key stream
-- whose nonce is the stream's number, 16 words to a block, from block 0 on
abbrev pub draw_of : List ℕ → ℕ → ℕ → ℕ
draw_of key stream place = word_at round_pairs (key_of key) stream place
