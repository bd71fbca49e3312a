-- The latency groups of the agents.
use Rattle.std.specs.Prelude.{ℕ, pos, ◌-◌, ◌==◌, slice_index_or, if◌then◌else◌}
use Rattle.agent_shell.specs.declared.setting.Kind.TheVariants.{Watcher}
use Rattle.agent_shell.specs.declared.setting.TraderSetting.{TraderSetting}
use Rattle.market_floor.specs.declared.opening.Opening.{Opening}

-- the setting of no trader
abbrev pub no_setting : TraderSetting
no_setting = record { kind = Watcher; group = 0; stock = 0; first = 0; every = 0; wobble = 0; delay = 0; cash = pos 0 }

-- the group of an agent: the exchange is agent 0, the traders follow in their order
abbrev pub group_of : Opening → ℕ → ℕ
group_of o agent = if agent == 0 then o.exchange_group else (slice_index_or o.traders (agent - 1) no_setting).group
