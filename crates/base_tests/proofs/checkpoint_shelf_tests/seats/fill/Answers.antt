use Rattle.std.proofs.Common.{ap, ◌∙◌}
use Rattle.shelf_core.specs.Views.{other_turns}
use Rattle.shelf_core.proofs.Staying.{turn_is_spent}
use Rattle.base_tests.proofs.checkpoint_shelf_tests.seats.fill.Goals as goal

pub returns-in-Some-clause-turns : goal.returns-in-Some-clause-turns
returns-in-Some-clause-turns c = let t = c.in-Turn.ensures.turn in
    c.publish.ensures.spent ∙ ap (other_turns c.in-Turn.turn) t.2.1 ∙ turn_is_spent c.in-Turn.turn t.2.0 c.args.seat.now.view.turns t.0

pub returns-in-None-clause-turns : goal.returns-in-None-clause-turns
returns-in-None-clause-turns c = let t = c.in-Turn.ensures.turn in
    c.abandon.ensures.spent ∙ ap (other_turns c.in-Turn.turn) t.2.1 ∙ turn_is_spent c.in-Turn.turn t.2.0 c.args.seat.now.view.turns t.0
