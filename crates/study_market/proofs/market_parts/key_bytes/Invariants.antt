use Rattle.std.proofs.Common.{◌≡◌, ◌<◌, ◌+◌, ◌*◌, ℕ, length, get_or}
use Rattle.study_market.specs.Market.{hex_value}
use Rattle.study_market.proofs.market_parts.key_bytes.Given as goal

abbrev pub invariant-loop-i : goal.invariant-loop-i
invariant-loop-i l = (length l.key ≡ 32)
    × ((k : ℕ) → k < l.i → get_or l.key k 0 ≡ hex_value (get_or l.text (2 * k) 0) * 16 + hex_value (get_or l.text (2 * k + 1) 0))
