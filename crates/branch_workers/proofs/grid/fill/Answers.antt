use Rattle.std.proofs.Common.{◌∙◌}
use Rattle.branch_workers.proofs.OneTurn.{has_one_turn, no_turn_left}
use Rattle.branch_workers.proofs.grid.fill.Goals as goal

pub publish-requires-clause-turn : goal.publish-requires-clause-turn
publish-requires-clause-turn g c =
    has_one_turn c.requires.turns.0 c.args.turn c.args.key c.args.seat.now.view.turns c.requires.turn c.requires.turns.1

pub abandon-requires-clause-turn : goal.abandon-requires-clause-turn
abandon-requires-clause-turn g c =
    has_one_turn c.requires.turns.0 c.args.turn c.args.key c.args.seat.now.view.turns c.requires.turn c.requires.turns.1

pub returns-in-Ok-clause-turns : goal.returns-in-Ok-clause-turns
returns-in-Ok-clause-turns g c =
    c.publish.ensures.spent ∙ no_turn_left c.requires.turns.0 c.args.turn c.args.key c.args.seat.now.view.turns c.requires.turn c.requires.turns.1

pub returns-in-Err-clause-turns : goal.returns-in-Err-clause-turns
returns-in-Err-clause-turns g c =
    c.abandon.ensures.spent ∙ no_turn_left c.requires.turns.0 c.args.turn c.args.key c.args.seat.now.view.turns c.requires.turn c.requires.turns.1

pub abandon-requires-clause-seat : goal.abandon-requires-clause-seat
abandon-requires-clause-seat g c = c.requires.seat

pub publish-requires-clause-seat : goal.publish-requires-clause-seat
publish-requires-clause-seat g c = c.requires.seat

pub keep-requires-clause-key : goal.keep-requires-clause-key
keep-requires-clause-key g c = c.requires.key

pub keep-requires-clause-state : goal.keep-requires-clause-state
keep-requires-clause-state g c = c.requires.state

pub returns-in-Err-clause-same : goal.returns-in-Err-clause-same
returns-in-Err-clause-same g c = c.abandon.ensures.same

pub returns-in-Err-clause-stays : goal.returns-in-Err-clause-stays
returns-in-Err-clause-stays g c = c.abandon.ensures.stays

pub returns-in-Ok-clause-same : goal.returns-in-Ok-clause-same
returns-in-Ok-clause-same g c = c.publish.ensures.same

pub returns-in-Ok-clause-stays : goal.returns-in-Ok-clause-stays
returns-in-Ok-clause-stays g c = c.publish.ensures.stays
