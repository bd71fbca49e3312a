-- A market for worked examples.
use Rattle.std.specs.Prelude.{ℕ, negsuc, pos, [], ◌∷◌}
use Rattle.market_types.specs.declared.message.Body.{Body}
use Rattle.market_types.specs.declared.message.Message.{Message}
use Rattle.market_rules.specs.declared.edit.Edit.{Edit}
use Rattle.market_rules.specs.declared.edit.Edit.TheVariants.{Series, Silence}
use Rattle.market_rules.specs.Worked.{halt_at}
use Rattle.market_floor.specs.declared.opening.Opening.{Opening}
use Rattle.market_floor.specs.OpeningWorked.{market, watcher}
use Rattle.market_floor.specs.Edited.{edited_floor}
use Rattle.market_floor.specs.Floor.{FloorChanged, FloorState, floor_at_opening}
use Rattle.market_floor.specs.Reaction.{Reaction, reaction}
use Rattle.market_floor.specs.Ruled.{ruled}

-- a market with one stock and one watcher, whose exchange computes for 7 nanoseconds, and which halts at 1400 and again at 1600
abbrev pub halting : Opening
halting = record (market 2000 7 (watcher 1000 ∷ [])) { dated = halt_at 1400 ∷ halt_at 1600 ∷ [] }

abbrev pub at_first : FloorState
at_first = floor_at_opening halting

-- the changes that are due at a time after so many
abbrev pub after_dates : ℕ → ℕ → FloorChanged
after_dates applied time = ruled halting applied time at_first

-- a message at 1500
abbrev pub note : ℕ → ℕ → Body → Message
note from to body = record { time = 1500; seq = 3; from = from; to = to; body = body }

abbrev pub met_by : FloorState → ℕ → ℕ → Body → Reaction
met_by f from to body = reaction halting f (note from to body)

abbrev pub edited : Edit → FloorState → FloorState
edited e f = (edited_floor 1500 e f).floor

-- the watcher is silenced
abbrev pub hushed : FloorState
hushed = edited (Silence 1) at_first

-- the value is lowered by 5 and raised by 12
abbrev pub shifted : FloorState
shifted = edited (Series 0 (pos 12)) (edited (Series 0 (negsuc 4)) at_first)
