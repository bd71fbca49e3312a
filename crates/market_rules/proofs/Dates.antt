-- A change that stands for none.
use Rattle.market_rules.specs.declared.changes.Change.TheVariants.{Halt}
use Rattle.market_rules.specs.declared.changes.Dated.{Dated}

abbrev pub no_change : Dated
no_change = record { time = 0; stock = 0; change = Halt }
