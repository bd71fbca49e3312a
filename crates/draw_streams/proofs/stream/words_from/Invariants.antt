use Rattle.std.proofs.Common.{◌≡◌, ℕ, ◌+◌, ◌<◌, length, slice_index}
use Rattle.rand_chacha.specs.ChaCha.{key_of}
use Rattle.draw_streams.specs.Draw.{draw_of}
use Rattle.draw_streams.proofs.stream.words_from.Given as goal

abbrev pub invariant-words : goal.invariant-words
invariant-words l = (l.generator ≡ record { key = key_of l.key; stream = l.number; word_pos = l.first + l.i })
    × (length l.words ≡ 64)
    × ((j : ℕ) → j < l.i → slice_index l.words j ≡ draw_of l.key l.number (l.first + j))
