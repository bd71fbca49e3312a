-- What a branch changes where it forks.
use Rattle.std.specs.Prelude.{ℕ}
use Rattle.market_rules.specs.declared.edit.Edit.{Edit}
use Rattle.market_rules.specs.declared.edit.Edit.TheVariants.{Tick, Fee, Halt, Resume, Latency, Agent, Silence, Inject, Series}

-- the letter of an edit's kind: t, f, h, r, l, p, s, i, v
abbrev pub letter_of : Edit → ℕ
letter_of (Tick stock table) = 116
letter_of (Fee stock fees) = 102
letter_of (Halt stock) = 104
letter_of (Resume stock) = 114
letter_of (Latency from to base jitter) = 108
letter_of (Agent agent name value) = 112
letter_of (Silence agent) = 115
letter_of (Inject agent after message) = 105
letter_of (Series stock offset) = 118
