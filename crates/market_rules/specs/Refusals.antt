-- Why bands are no tick table.
use Rattle.std.specs.Prelude.{ℕ, ◌%◌, ◌==◌, not, nat_lt, if◌then◌else◌, List, [], ◌∷◌, Option, None, Some, option_map, position}
use Rattle.market_rules.specs.declared.bands.Band.{Band}
use Rattle.market_rules.specs.declared.error.RuleError.{RuleError}
use Rattle.market_rules.specs.declared.error.RuleError.TheVariants.{BandsNotRising, ZeroTick, BandOffTick}
use Rattle.market_rules.specs.Breaks.{first_break}

-- the first refusal that there is
abbrev pub earlier_refusal : Option RuleError → Option RuleError → Option RuleError
earlier_refusal (Some e) others = Some e
earlier_refusal None others = others

-- the first band that doesn't start above the one before it, and 0 where there is no band
abbrev pub not_rising : List Band → Option ℕ
not_rising [] = Some 0
not_rising (b ∷ bs) = first_break (λ (x y : Band). nat_lt x.from y.from) (b ∷ bs)

-- the first band with tick 0
abbrev pub zero_tick : List Band → Option ℕ
zero_tick bands = position (λ (b : Band). b.tick == 0) bands

-- the first band that starts off its tick; the first band has to start at 0
abbrev pub off_tick : List Band → Option ℕ
off_tick [] = None
off_tick (b ∷ bs) = if b.from == 0 then position (λ (x : Band). not (x.from % x.tick == 0)) (b ∷ bs) else Some 0

-- why these bands are no tick table
abbrev pub table_refusal : List Band → Option RuleError
table_refusal bands = earlier_refusal (option_map BandsNotRising (not_rising bands))
    (earlier_refusal (option_map ZeroTick (zero_tick bands)) (option_map BandOffTick (off_tick bands)))
