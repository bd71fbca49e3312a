use Rattle.checkpoint_shelf.proofs.Trials.{two_new}
use Rattle.base_tests.proofs.checkpoint_shelf_tests.seats.two_new.Goals as goal

pub returns-clause-zero : goal.returns-clause-zero
returns-clause-zero c = (two_new c.args.shelf.now c.args.seats.items c.pop.new.self.items c.pop-2.new.self.items c.in-Some-pop.zero c.in-Some.one c.requires.new c.requires.two c.in-Some.ensures.items c.in-Some-pop.ensures.items).zero

pub returns-clause-one : goal.returns-clause-one
returns-clause-one c = (two_new c.args.shelf.now c.args.seats.items c.pop.new.self.items c.pop-2.new.self.items c.in-Some-pop.zero c.in-Some.one c.requires.new c.requires.two c.in-Some.ensures.items c.in-Some-pop.ensures.items).one
