-- A parameter that belongs to a kind still does once another one was replaced.
use Rattle.std.proofs.Common.{ℕ}
use Rattle.agent_shell.specs.declared.setting.Kind.{Kind}
use Rattle.agent_shell.specs.declared.setting.Kind.TheVariants.{Noise, Value, Momentum, Maker}
use Rattle.agent_shell.specs.Parameters.{IsOwnParam, kind_with}
use Rattle.market_rules.specs.declared.edit.Param.{Param}
use Rattle.market_rules.specs.declared.edit.Param.TheVariants.{Size, Noise as NoiseParam, Margin, Half, Step, Levels, Pause}

pub still-own : (kind : Kind) (other name : Param) (given value : ℕ) → IsOwnParam kind name value → IsOwnParam (kind_with kind other given) name value
still-own (Noise size) Size name given value h = h
still-own (Value size noise margin) Size name given value h = h
still-own (Value size noise margin) NoiseParam name given value h = h
still-own (Value size noise margin) Margin name given value h = h
still-own (Momentum size short long) Size name given value h = h
still-own (Maker size half step levels pause) Size name given value h = h
still-own (Maker size half step levels pause) Half name given value h = h
still-own (Maker size half step levels pause) Step name given value h = h
still-own (Maker size half step levels pause) Levels name given value h = h
still-own (Maker size half step levels pause) Pause name given value h = h
still-own kind other name given value h = h
