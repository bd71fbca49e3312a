-- The middles that a trader remembers, by its kind.
use Rattle.std.specs.Prelude.{◌≡◌, ◌≤◌, ℕ, List, [], length}
use Rattle.agent_shell.specs.declared.setting.Kind.{Kind}
use Rattle.agent_shell.specs.declared.setting.Kind.TheVariants.{Watcher, Noise, Value, Momentum, Maker}

-- momentum has no more of them than it keeps, and every other kind has none
abbrev pub IsPast : Kind → List ℕ → Type 0
IsPast Watcher past = past ≡ []
IsPast (Noise size) past = past ≡ []
IsPast (Value size noise margin) past = past ≡ []
IsPast (Momentum size short long) past = length past ≤ long
IsPast (Maker size half step levels pause) past = past ≡ []
