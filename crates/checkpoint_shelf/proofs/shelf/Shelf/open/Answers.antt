use Rattle.std.proofs.Common.{arith, [], sym, ap, ◌∙◌, subst}
use Rattle.checkpoint_shelf.specs.Holds.{led}
use Rattle.checkpoint_shelf.specs.Seats.{NewFrom}
use Rattle.checkpoint_shelf.proofs.Calls.{about_same}
use Rattle.checkpoint_shelf.proofs.Opens.{all_of_shelf}
use Rattle.checkpoint_shelf.proofs.shelf.Shelf.open.Goals as goal

pub seated-requires-clause-words : goal.seated-requires-clause-words
seated-requires-clause-words g c = let w = c.shelf.invariant.2 in omega arith

pub seated-requires-clause-fits : goal.seated-requires-clause-fits
seated-requires-clause-fits g c = c.shelf.invariant.1

pub seated-requires-clause-seats : goal.seated-requires-clause-seats
seated-requires-clause-seats g c = let e = c.in_ok-shelf.ensures in sym (ap (λ s. s.seats) c.shelf.view_is ∙ e.shelf.1)

pub seated-requires-clause-table : goal.seated-requires-clause-table
seated-requires-clause-table g c = let e = c.in_ok-shelf.ensures in e.seat.0 ∙ sym (ap (λ s. s.table) c.shelf.view_is)

pub seated-requires-clause-first : goal.seated-requires-clause-first
seated-requires-clause-first g c = let e = c.in_ok-shelf.ensures in let v = c.shelf.view_is in
    let a = about_same (record { plan = c.args.plan; seats = c.args.seats; course = c.of.result }) c.shelf.inside.table.shared.key (sym (ap (λ s. s.plan) v ∙ e.shelf.0)) (sym (ap (λ s. s.seats) v ∙ e.shelf.1)) (sym (ap (λ s. s.course) v ∙ e.shelf.2)) in
    e.seat.1 ∙ ap (λ k. (led k 1, [])) a

pub returns-clause-seats : goal.returns-clause-seats
returns-clause-seats g c = subst (λ l. NewFrom l 0 c.in-Ok.all.items) c.shelf.view_is c.in-Ok.ensures.each

pub returns-clause-each : goal.returns-clause-each
returns-clause-each g c = all_of_shelf c.in_ok-shelf.shelf 0 c.in-Ok.all.items (subst (λ l. NewFrom l 0 c.in-Ok.all.items) c.shelf.view_is c.in-Ok.ensures.each)
