use Rattle.std.proofs.Common.{◌*◌, ◌+◌, ◌∙◌, ℕ, get_or, ap, arith}
use Rattle.study_file.specs.Keys.{is_hex_digit}
use Rattle.study_market.specs.Market.{hex_value}
use Rattle.study_market.proofs.Hex.{all-bytes, one-byte-more}
use Rattle.study_market.proofs.Lists.{all-pass}
use Rattle.study_market.proofs.market_parts.key_bytes.Goals as goal

pub hex_value-requires : goal.hex_value-requires
hex_value-requires c = all-pass is_hex_digit c.args.text.now c.requires.digits (2 * c.loop-i.i) 0 (omega (arith, c.requires.length, c.loop-i-test.true))

pub hex_value-requires-in-loop-i : goal.hex_value-requires-in-loop-i
hex_value-requires-in-loop-i c = all-pass is_hex_digit c.args.text.now c.requires.digits (2 * c.loop-i.i + 1) 0 (omega (arith, c.requires.length, c.loop-i-test.true))

pub returns : goal.returns
returns c = all-bytes c.args.text.now c.loop-i.key c.requires.length c.loop-i.invariant.0 (λ k within. c.loop-i.invariant.1 k (omega (arith, within)))

pub loop-i-preserved : goal.loop-i-preserved
loop-i-preserved c =
    one-byte-more (λ (k : ℕ). hex_value (get_or c.args.text.now (2 * k) 0) * 16 + hex_value (get_or c.args.text.now (2 * k + 1) 0)) c.loop-i.key c.loop-i.i
    (c.hex_value.result * 16 + c.hex_value-in-loop-i.result) c.loop-i.invariant.0 c.loop-i-test.true c.loop-i.invariant.1
    (ap (λ (n : ℕ). n * 16 + c.hex_value-in-loop-i.result) c.hex_value.ensures.value
    ∙ ap (λ (n : ℕ). hex_value (get_or c.args.text.now (2 * c.loop-i.i) 0) * 16 + n) c.hex_value-in-loop-i.ensures.value)
