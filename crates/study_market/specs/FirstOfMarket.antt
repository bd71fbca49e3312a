-- The first broken rule of a study, as far as its agents: those of its branches are not among these.
use Rattle.std.specs.Prelude.{ℕ, List, [], ◌∷◌, Option, None, Some, option_map, Result, Ok, Err}
use Rattle.std.specs.Option.{option_or}
use Rattle.toml.specs.Data.{Members}
use Rattle.study_market.specs.declared.early_refusal.Refusal.{Refusal}
use Rattle.study_market.specs.FirstBroken.{Rule, rule, market_rules, stock_rules, first_of_rules}
use Rattle.study_market.specs.MarketRules.{start_of}
use Rattle.study_market.specs.StockRules.{stocks}
use Rattle.fundamental_series.specs.declared.rule.SeriesRow.{SeriesRow}
use Rattle.study_market.specs.Rows.{read_rows, no_rows}
use Rattle.study_market.specs.Late.{first_late}
use Rattle.study_market.specs.ChangeRules.{change_keys_broken, dates_broken, change_stock_broken, change_rules_broken}
use Rattle.study_market.specs.AgentRules.{counts_broken, agent_keys_broken, timing_broken, agent_stock_broken, own_broken}

-- the rules of the changes
abbrev pub change_rules : List Rule
change_rules =
    rule 21 change_keys_broken ∷ rule 22 dates_broken ∷ rule 23 change_stock_broken ∷ rule 24 change_rules_broken ∷ []

-- the rules of the agents
abbrev pub agent_rules : List Rule
agent_rules =
    rule 25 counts_broken ∷ rule 26 agent_keys_broken ∷ rule 27 timing_broken ∷ rule 28 agent_stock_broken
    ∷ rule 29 own_broken ∷ []

-- the rows of each stock that the series file says, and no rows where none is named
abbrev pub tables_of : Members → Option (List ℕ) → Result (List (List SeriesRow)) ℕ
tables_of t None = Ok (no_rows (stocks t))
tables_of t (Some text) = read_rows (stocks t) text

-- the first stock by rows that has no row at the start
abbrev pub late_refusal : Members → List (List SeriesRow) → Option Refusal
late_refusal t tables = option_map (λ place. record { rule = 20; place = place }) (first_late (start_of t) (stocks t) tables)

-- the first record of the series file that is refused, or the first stock by rows that has no row at the start
abbrev pub series_refusal : Members → Option (List ℕ) → Option Refusal
series_refusal t series = elim (tables_of t series) [
  | Err number ↦ Some (record { rule = 19; place = number })
  | Ok tables ↦ late_refusal t tables
]

-- the first broken one of the rules before those of the series file
abbrev pub early_refusal : Members → Option Refusal
early_refusal t = option_or (first_of_rules market_rules t) (first_of_rules stock_rules t)

-- the first broken one of the rules after those of the series file
abbrev pub last_refusal : Members → Option Refusal
last_refusal t = option_or (first_of_rules change_rules t) (first_of_rules agent_rules t)

-- the first broken rule of a study's table, with the text of its series file where it names one
abbrev pub first_broken : Members → Option (List ℕ) → Option Refusal
first_broken t series = option_or (early_refusal t) (option_or (series_refusal t series) (last_refusal t))
