use Rattle.std.proofs.Common.{List, [], ◌∷◌, ◌++◌, ℕ, refl, ap, ◌∙◌, rules}
use Rattle.shelf_core.specs.declared.plan.Key.{Key}
use Rattle.shelf_core.proofs.Staying.{stays_then}
use Rattle.branch_workers.proofs.OneTurn.{no_turn_left}
use Rattle.branch_workers.proofs.segment.shelve.Goals as goal

pub returns-in-Taken-clause-stays : goal.returns-in-Taken-clause-stays
returns-in-Taken-clause-stays c = c.begin.ensures.stays

pub begin-requires-clause-seat : goal.begin-requires-clause-seat
begin-requires-clause-seat c = c.requires.seat

pub returns-in-Taken-clause-same : goal.returns-in-Taken-clause-same
returns-in-Taken-clause-same c = c.begin.ensures.same

pub returns-in-Turn-clause-known : goal.returns-in-Turn-clause-known
returns-in-Turn-clause-known c = search rules

pub publish-requires-clause-turn : goal.publish-requires-clause-turn
publish-requires-clause-turn c = (rw c.in-Turn.is at c.begin.ensures.turn).1

pub returns-in-Turn-clause-turns : goal.returns-in-Turn-clause-turns
returns-in-Turn-clause-turns c =
    let t = rw c.in-Turn.is at c.begin.ensures.turn in
    c.publish.ensures.spent
    ∙ no_turn_left t.2.0 c.in-Turn.turn c.in-Turn.turn c.begin.new.seat.view.turns refl (t.2.1 ∙ ap (λ (ts : List (ℕ × Key)). ts ++ (t.2.0, c.in-Turn.turn) ∷ []) c.requires.turns)

pub returns-in-Turn-clause-stays : goal.returns-in-Turn-clause-stays
returns-in-Turn-clause-stays c = stays_then c.args.seat.now.view c.begin.new.seat.view c.publish.new.seat.view c.begin.ensures.stays c.publish.ensures.stays
