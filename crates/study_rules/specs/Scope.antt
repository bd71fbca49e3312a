-- What a study's edits may speak of, by its entries or by what its runs start from.
use Rattle.std.specs.Prelude.{◌≤◌, ◌==◌, ℕ, List, [], ◌∷◌, ◌++◌, length, map, replicate, codes}
use Rattle.std.specs.List.{before_first}
use Rattle.toml.specs.Data.{Data, Members}
use Rattle.latency_model.specs.Tables.{group_count}
use Rattle.agent_shell.specs.declared.setting.Kind.{Kind}
use Rattle.agent_shell.specs.declared.setting.TraderSetting.{TraderSetting}
use Rattle.exchange_agent.specs.declared.told.StockRules.{StockRules}
use Rattle.market_floor.specs.declared.opening.Opening.{Opening}
use Rattle.study_file.specs.Values.{string_at}
use Rattle.study_market.specs.MarketRules.{size_of}
use Rattle.study_market.specs.StockRules.{symbols}
use Rattle.study_market.specs.AgentRules.{agents, count_of}
use Rattle.study_rules.specs.Entries.{entry_of}
use Rattle.study_rules.specs.Fitting.{word_of}

-- The symbols of the stocks, the kind of each trader in order, and how many latency groups there are.
pub record Scope : Type 0 where
  pub stocks : List (List ℕ)
  pub kinds : List (List ℕ)
  pub groups : ℕ

-- there are no more of them than a study may have
pub record IsSmall (s : Scope) : Type 0 where
  pub stocks : length s.stocks ≤ 16
  pub traders : length s.kinds ≤ 511
  pub groups : s.groups ≤ 32

-- the kind of each trader that these entries say
abbrev pub kinds_of : List Data → List (List ℕ)
kinds_of [] = []
kinds_of (d ∷ ds) = replicate (count_of (entry_of d)) (string_at (codes "kind") (entry_of d)) ++ kinds_of ds

abbrev pub scope_of : Members → Scope
scope_of t = record { stocks = symbols t; kinds = kinds_of (agents t); groups = size_of t }

-- the symbol of a stock as a study writes it: the bytes before the spaces on its right
abbrev pub written_symbol : StockRules → List ℕ
written_symbol r = before_first (λ c. c == 32) r.symbol.0

-- the kinds of traders
abbrev pub kinds_in : List TraderSetting → List Kind
kinds_in ss = map (λ (s : TraderSetting). s.kind) ss

-- What an edit may speak of beside what a run starts from. For the opening of an accepted study it is what the study's entries
-- say: `both_scopes_agree`.
abbrev pub scope_of_opening : Opening → Scope
scope_of_opening o = record {
  stocks = map written_symbol o.stocks;
  kinds = map word_of (kinds_in o.traders);
  groups = group_count o.groups;
}
