-- The fee of a match.
use Rattle.std.specs.Prelude.{ℕ, ℤ, pos, ◌*ℤ◌, ◌==◌, if◌then◌else◌}
use Rattle.market_rules.specs.declared.fees.FeeTable.{FeeTable}

-- the fee a share by the liquidity flag: 'A' (65) added, any other took
abbrev pub each_of : FeeTable → ℕ → ℤ
each_of fees flag = if flag == 65 then fees.add else fees.take

-- the fee for so many shares
abbrev pub fee_of : FeeTable → ℕ → ℕ → ℤ
fee_of fees flag shares = each_of fees flag *ℤ pos shares
