-- Dated changes.
use Rattle.std.specs.Prelude.{ℕ, Bool, nat_le, List, Option, option_map, count_by}
use Rattle.market_rules.specs.declared.changes.Dated.{Dated}
use Rattle.market_rules.specs.declared.error.RuleError.{RuleError}
use Rattle.market_rules.specs.declared.error.RuleError.TheVariants.{DatesNotRising}
use Rattle.market_rules.specs.Breaks.{first_break}

-- why these changes are no list of dated changes: one is dated before the one before it
abbrev pub dates_refusal : List Dated → Option RuleError
dates_refusal list = option_map DatesNotRising (first_break (λ (x y : Dated). nat_le x.time y.time) list)

-- whether a change is dated at this time or earlier
abbrev pub is_due : ℕ → Dated → Bool
is_due time d = nat_le d.time time

-- how many changes are dated at this time or earlier
abbrev pub dated_by : List Dated → ℕ → ℕ
dated_by list time = count_by (is_due time) list
