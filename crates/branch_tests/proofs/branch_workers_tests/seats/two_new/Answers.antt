use Rattle.std.proofs.Common.{length, sym, ap, ◌∙◌}
use Rattle.shelf_core.specs.declared.seat.SeatView.{SeatView}
use Rattle.checkpoint_shelf.proofs.Trials.{two_new}
use Rattle.branch_tests.proofs.branch_workers_tests.seats.two_new.Goals as goal

pub returns-clause-zero : goal.returns-clause-zero
returns-clause-zero c =
    let new = (two_new c.args.shelf.now c.args.seats.items c.pop.new.self.items c.pop-2.new.self.items c.in-Some-pop.zero c.in-Some.one c.requires.new c.requires.two c.in-Some.ensures.items c.in-Some-pop.ensures.items).zero in
    (new.0, ap (λ (v : SeatView). v.counts) new.1 ∙ sym (ap (λ (v : SeatView). length v.claims) new.1), ap (λ (v : SeatView). v.turns) new.1)

pub returns-clause-one : goal.returns-clause-one
returns-clause-one c =
    let new = (two_new c.args.shelf.now c.args.seats.items c.pop.new.self.items c.pop-2.new.self.items c.in-Some-pop.zero c.in-Some.one c.requires.new c.requires.two c.in-Some.ensures.items c.in-Some-pop.ensures.items).one in
    (new.0, ap (λ (v : SeatView). v.counts) new.1 ∙ sym (ap (λ (v : SeatView). length v.claims) new.1), ap (λ (v : SeatView). v.turns) new.1)
