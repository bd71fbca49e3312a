-- Watchers, noise traders and traders on value.
use Rattle.std.specs.Prelude.{⊤}
use Rattle.agent_shell.specs.declared.setting.Kind.{Kind}
use Rattle.agent_shell.specs.declared.setting.Kind.TheVariants.{Watcher, Noise, Value, Momentum, Maker}

-- the kinds of this crate
abbrev pub IsTakerKind : Kind → Type 0
IsTakerKind Watcher = ⊤
IsTakerKind (Noise size) = ⊤
IsTakerKind (Value size noise margin) = ⊤
IsTakerKind (Momentum size short long) = ⊥
IsTakerKind (Maker size half step levels pause) = ⊥
