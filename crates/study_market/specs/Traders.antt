-- The traders that a study's entries say, in order.
use Rattle.std.specs.Prelude.{ℕ, List, map, codes, if◌then◌else◌}
use Rattle.std.specs.List.{range_with_len, flat_map}
use Rattle.toml.specs.Data.{Data, Members}
use Rattle.agent_shell.specs.declared.setting.Kind.{Kind}
use Rattle.agent_shell.specs.declared.setting.Kind.TheVariants.{Watcher, Noise, Value, Momentum, Maker}
use Rattle.agent_shell.specs.declared.setting.TraderSetting.{TraderSetting}
use Rattle.study_file.specs.Values.{number_at, string_at}
use Rattle.study_market.specs.StockRules.{symbols}
use Rattle.study_market.specs.ChangeRules.{is_kind}
use Rattle.study_market.specs.AgentRules.{agents, count_of, first_wakeup_at}
use Rattle.study_market.specs.Entries.{entry_of, natural_at, place_of}

abbrev pub size_of : Members → ℕ
size_of t = natural_at (codes "size") t

abbrev pub value_kind_of : Members → Kind
value_kind_of t = Value (size_of t) (natural_at (codes "noise") t) (natural_at (codes "margin") t)

abbrev pub momentum_kind_of : Members → Kind
momentum_kind_of t = Momentum (size_of t) (natural_at (codes "short") t) (natural_at (codes "long") t)

abbrev pub maker_kind_of : Members → Kind
maker_kind_of t =
    Maker (size_of t) (natural_at (codes "half") t) (natural_at (codes "step") t) (natural_at (codes "levels") t) (natural_at (codes "pause") t)

-- the kind of an entry's traders, with its own parameters
abbrev pub kind_of : Members → Kind
kind_of t =
    if is_kind (codes "noise") t then Noise (size_of t)
    else if is_kind (codes "value") t then value_kind_of t
    else if is_kind (codes "momentum") t then momentum_kind_of t
    else if is_kind (codes "maker") t then maker_kind_of t
    else Watcher

-- the trader of a number, from 0, that an entry says, of one of the stocks of these symbols
abbrev pub trader_of : List (List ℕ) → Members → ℕ → TraderSetting
trader_of known t number = record {
  kind = kind_of t;
  group = natural_at (codes "group") t;
  stock = place_of known (string_at (codes "stock") t);
  first = first_wakeup_at number t;
  every = natural_at (codes "every") t;
  wobble = natural_at (codes "wobble") t;
  delay = natural_at (codes "delay") t;
  cash = number_at (codes "cash") t;
}

-- as many traders in a row as the entry counts
abbrev pub traders_in : List (List ℕ) → Members → List TraderSetting
traders_in known t = map (trader_of known t) (range_with_len 0 (count_of t))

abbrev pub traders_of : Members → List TraderSetting
traders_of t = flat_map (λ (d : Data). traders_in (symbols t) (entry_of d)) (agents t)
