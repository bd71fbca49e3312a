use Rattle.std.proofs.Common.{ap, ◌∙◌}
use Rattle.shelf_core.specs.Views.{other_turns}
use Rattle.shelf_core.proofs.Staying.{turn_is_spent}
use Rattle.base_tests.proofs.checkpoint_shelf_tests.seats.refusal.Goals as goal

pub returns-in-Turn-clause-turns : goal.returns-in-Turn-clause-turns
returns-in-Turn-clause-turns c = let t = c.in-Turn.ensures.turn in
    c.abandon.ensures.spent ∙ ap (other_turns c.in-Turn.turn) t.2.1 ∙ turn_is_spent c.in-Turn.turn t.2.0 c.args.seat.now.view.turns t.0
