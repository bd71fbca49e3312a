-- The first broken rule of a market and of its stocks, for worked examples.
use Rattle.std.specs.Prelude.{Option}
use Rattle.toml.specs.Data.{Members}
use Rattle.study_market.specs.declared.early_refusal.Refusal.{Refusal}
use Rattle.study_market.specs.FirstBroken.{first_of_rules, market_rules, stock_rules}

abbrev pub market_broken : Members → Option Refusal
market_broken t = first_of_rules market_rules t

abbrev pub stock_broken : Members → Option Refusal
stock_broken t = first_of_rules stock_rules t
