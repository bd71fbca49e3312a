-- The first broken rule of a study, as far as the stocks.
use Rattle.std.specs.Prelude.{ℕ, List, [], ◌∷◌, Option, None, Some}
use Rattle.toml.specs.Data.{Members}
use Rattle.study_market.specs.declared.early_refusal.Refusal.{Refusal}
use Rattle.study_market.specs.MarketRules.{top_keys_broken, version_broken, key_broken, day_broken, limits_broken, parts_broken, squares_broken, cells_broken, exchange_broken}
use Rattle.study_market.specs.StockRules.{stock_count_broken, stock_keys_broken, symbol_broken, repeat_broken, bands_broken, fees_broken, prices_broken, pace_broken, series_broken}

-- a rule's number, and the place at which a table breaks it
pub record Rule : Type 0 where
  pub number : ℕ
  pub broken : Members → Option ℕ

abbrev pub rule : ℕ → (Members → Option ℕ) → Rule
rule number broken = record { number = number; broken = broken }

-- the rules of the top table, of the exchange and of the latencies
abbrev pub market_rules : List Rule
market_rules =
    rule 1 top_keys_broken ∷ rule 2 version_broken ∷ rule 3 key_broken ∷ rule 4 day_broken ∷ rule 5 limits_broken
    ∷ rule 6 parts_broken ∷ rule 7 squares_broken ∷ rule 8 cells_broken ∷ rule 9 exchange_broken ∷ []

-- the rules of the stocks
abbrev pub stock_rules : List Rule
stock_rules =
    rule 10 stock_count_broken ∷ rule 11 stock_keys_broken ∷ rule 12 symbol_broken ∷ rule 13 repeat_broken
    ∷ rule 14 bands_broken ∷ rule 15 fees_broken ∷ rule 16 prices_broken ∷ rule 17 pace_broken ∷ rule 18 series_broken ∷ []

-- the first of these rules that is broken, and its place
abbrev pub first_of_rules : List Rule → Members → Option Refusal
first_of_rules [] t = None
first_of_rules (r ∷ rs) t = elim (r.broken t) [
  | None ↦ first_of_rules rs t
  | Some place ↦ Some (record { rule = r.number; place = place })
]
