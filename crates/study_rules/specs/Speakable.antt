-- Where the stocks and the traders stand that an edit may speak of: in a study's entries, or in what its runs start from.
use Rattle.std.specs.Prelude.{ℕ, List, map}
use Rattle.toml.specs.View.{view}
use Rattle.study_market.specs.StockRules.{symbol_in}
use Rattle.study_rules.specs.declared.scope.Stocks.{Stocks}
use Rattle.study_rules.specs.declared.scope.Stocks.TheVariants.{Entries, Rules}
use Rattle.study_rules.specs.declared.scope.Traders.{Traders}
use Rattle.study_rules.specs.declared.scope.Traders.TheVariants.{Agents, Settings}
use Rattle.study_rules.specs.Fitting.{word_of}
use Rattle.study_rules.specs.Scope.{kinds_of, kinds_in, written_symbol}

-- the symbols of the stocks
abbrev pub symbols_among : Stocks → List (List ℕ)
symbols_among (Entries entries) = map symbol_in (map view entries.now)
symbols_among (Rules rules) = map written_symbol rules.now

-- the kind of each trader
abbrev pub kinds_among : Traders → List (List ℕ)
kinds_among (Agents entries) = kinds_of (map view entries.now)
kinds_among (Settings settings) = map word_of (kinds_in settings.now)
