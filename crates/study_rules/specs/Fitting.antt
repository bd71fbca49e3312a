-- Edits that can be made where there are so many stocks and latency groups, and traders of these kinds.
use Rattle.std.specs.Prelude.{◌≡◌, ◌≤◌, ℕ, ◌-◌, ⊤, true, List, All, length, slice_index_or, codes}
use Rattle.market_rules.specs.declared.edit.Edit.{Edit}
use Rattle.market_rules.specs.declared.edit.Edit.TheVariants.{Agent}
use Rattle.market_rules.specs.EditRanges.{is_among, is_in_range}
use Rattle.agent_shell.specs.declared.setting.Kind.{Kind}
use Rattle.agent_shell.specs.declared.setting.Kind.TheVariants.{Watcher, Noise, Value, Momentum, Maker}
use Rattle.agent_shell.specs.Parameters.{IsOwnParam}

-- the word of a trader's kind
abbrev pub word_of : Kind → List ℕ
word_of Watcher = codes "watcher"
word_of (Noise size) = codes "noise"
word_of (Value size noise margin) = codes "value"
word_of (Momentum size short long) = codes "momentum"
word_of (Maker size half step levels pause) = codes "maker"

-- a parameter of an edit belongs to the trader's kind
abbrev pub IsParamAmong : List Kind → Edit → Type 0
IsParamAmong kinds (Agent agent name value) = IsOwnParam (slice_index_or kinds (agent - 1) Watcher) name value
IsParamAmong kinds e = ⊤

-- an edit's stock, trader and groups exist, its numbers are in their ranges, and a parameter belongs to the trader's kind
pub record IsEditAmong (stocks : ℕ) (kinds : List Kind) (groups : ℕ) (e : Edit) : Type 0 where
  pub among : is_among stocks (length kinds) groups e ≡ true
  pub range : is_in_range e ≡ true
  pub parameter : IsParamAmong kinds e

-- at most 16 edits, each of which can be made there
pub record AreEditsAmong (stocks : ℕ) (kinds : List Kind) (groups : ℕ) (es : List Edit) : Type 0 where
  pub few : length es ≤ 16
  pub fit : All (λ (e : Edit). IsEditAmong stocks kinds groups e) es
