-- The size of words.
use Rattle.std.proofs.Common.{◌<◌, ◌≤◌, ◌*◌, ◌^◌, ℕ, List, arith, subst}
use Rattle.std.proofs.Math.Nat.{div-lt_iff_lt-mul, mul-lt-mul_of_pos_right, mul_comm}
use Rattle.rand_chacha.specs.Block.{block_word}
use Rattle.draw_streams.specs.Below.{below_of}
use Rattle.draw_streams.specs.Draw.{draw_of}

pub word-low : (key : List ℕ) (stream place : ℕ) → draw_of key stream place < 2 ^ 32
unfolding block_word
word-low key stream place = omega arith

pub below-low : (word m : ℕ) → word < 2 ^ 32 → 1 ≤ m → below_of word m < m
below-low word m fits some =
    let less : word * m < 2 ^ 32 * m = mul-lt-mul_of_pos_right fits (omega arith) in
    let turned : word * m < m * 2 ^ 32 = subst (λ n. word * m < n) (mul_comm (2 ^ 32) m) less in
    (div-lt_iff_lt-mul (omega arith)).1 turned
