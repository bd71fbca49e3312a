-- Entries that are kept.
use Rattle.std.specs.Prelude.{List}
use Rattle.market_types.specs.Told.{EntryTold}

pub record Held : Type 0 where
  pub list : List EntryTold
