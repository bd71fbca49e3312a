-- The parameters of a trader: their ranges, and how an edit replaces one.
use Rattle.std.specs.Prelude.{◌≤◌, ◌<◌, ℕ, ⊤}
use Rattle.market_types.specs.Limits.{longest_delay}
use Rattle.agent_shell.specs.declared.setting.Kind.{Kind}
use Rattle.agent_shell.specs.declared.setting.Kind.TheVariants.{Watcher, Noise, Value, Momentum, Maker}
use Rattle.agent_shell.specs.declared.setting.TraderSetting.{TraderSetting}
use Rattle.market_rules.specs.declared.edit.Param.{Param}
use Rattle.market_rules.specs.declared.edit.Param.TheVariants.{Size, Every, Wobble, Delay, Noise as NoiseParam, Margin, Half, Step, Levels, Pause}

-- from one to another
pub record IsBetween (low high n : ℕ) : Type 0 where
  pub not_below : low ≤ n
  pub not_above : n ≤ high

abbrev pub IsSize : ℕ → Type 0
IsSize size = IsBetween 1 999999 size

-- a price or a distance of prices: up to 100,000 dollars
abbrev pub IsDistance : ℕ → Type 0
IsDistance n = n ≤ 1000000000

-- up to an hour, in nanoseconds
abbrev pub IsHour : ℕ → Type 0
IsHour n = n ≤ longest_delay

-- the ranges of a kind's own parameters
abbrev pub IsKind : Kind → Type 0
IsKind Watcher = ⊤
IsKind (Noise size) = IsSize size
IsKind (Value size noise margin) = IsSize size × IsDistance noise × IsDistance margin
IsKind (Momentum size short long) = IsSize size × (1 ≤ short) × (short < long) × (long ≤ 64)
IsKind (Maker size half step levels pause) = IsSize size × IsDistance half × IsDistance step × IsBetween 1 8 levels × IsHour pause

-- the ranges of a setting
pub record IsSetting (s : TraderSetting) : Type 0 where
  pub kind : IsKind s.kind
  pub every : IsBetween 1 longest_delay s.every
  pub delay : IsHour s.delay

-- Whether a value is one for a parameter of a kind: the kind has the parameter, and the value is in its range.
abbrev pub IsOwnParam : Kind → Param → ℕ → Type 0
IsOwnParam (Noise size) Size value = IsSize value
IsOwnParam (Value size noise margin) Size value = IsSize value
IsOwnParam (Value size noise margin) NoiseParam value = IsDistance value
IsOwnParam (Value size noise margin) Margin value = IsDistance value
IsOwnParam (Momentum size short long) Size value = IsSize value
IsOwnParam (Maker size half step levels pause) Size value = IsSize value
IsOwnParam (Maker size half step levels pause) Half value = IsDistance value
IsOwnParam (Maker size half step levels pause) Step value = IsDistance value
IsOwnParam (Maker size half step levels pause) Levels value = IsBetween 1 8 value
IsOwnParam (Maker size half step levels pause) Pause value = IsHour value
IsOwnParam kind Every value = IsBetween 1 longest_delay value
IsOwnParam kind Wobble value = value ≤ 4294967295
IsOwnParam kind Delay value = IsHour value
IsOwnParam kind name value = ⊥

-- a kind with one parameter replaced; a parameter of another kind replaces nothing
abbrev pub kind_with : Kind → Param → ℕ → Kind
kind_with (Noise size) Size value = Noise value
kind_with (Value size noise margin) Size value = Value value noise margin
kind_with (Value size noise margin) NoiseParam value = Value size value margin
kind_with (Value size noise margin) Margin value = Value size noise value
kind_with (Momentum size short long) Size value = Momentum value short long
kind_with (Maker size half step levels pause) Size value = Maker value half step levels pause
kind_with (Maker size half step levels pause) Half value = Maker size value step levels pause
kind_with (Maker size half step levels pause) Step value = Maker size half value levels pause
kind_with (Maker size half step levels pause) Levels value = Maker size half step value pause
kind_with (Maker size half step levels pause) Pause value = Maker size half step levels value
kind_with kind name value = kind

-- a setting with one parameter replaced
abbrev pub setting_with : Param → ℕ → TraderSetting → TraderSetting
setting_with Every value s = record s { every = value }
setting_with Wobble value s = record s { wobble = value }
setting_with Delay value s = record s { delay = value }
setting_with name value s = record s { kind = kind_with s.kind name value }
