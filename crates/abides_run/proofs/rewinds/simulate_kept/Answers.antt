use Rattle.std.proofs.Common.{◌∙◌, ap, arith, subst, sym}
use Rattle.kernel_copy.specs.Courses.{CourseTold}
use Rattle.abides_run.specs.Rewinds.{lasts_of}
use Rattle.abides_run.specs.Simulated.{AreRunOf}
use Rattle.abides_run.proofs.Keeping.{kept-near}
use Rattle.abides_run.proofs.rewinds.simulate_kept.Goals as goal

pub last_events-requires : goal.last_events-requires
last_events-requires g c = subst (λ (x : CourseTold). AreRunOf x c.in-Ok.worked.outcomes.items) (sym c.deref.ensures) c.in-Ok.ensures.ran

pub returns-in_default-last_events-clause-most : goal.returns-in_default-last_events-clause-most
returns-in_default-last_events-clause-most g c = omega (arith, c.in-Ok.ensures.rose)

pub returns-clause-most : goal.returns-clause-most
returns-clause-most g c = omega (arith, c.in-Ok.ensures.rose)

pub returns-clause-shelf : goal.returns-clause-shelf
returns-clause-shelf g c = c.in-Ok.ensures.shelf.course

pub returns-clause-lasts : goal.returns-clause-lasts
returns-clause-lasts g c = c.in-Ok-last_events.ensures ∙ ap (λ (x : CourseTold). lasts_of x) c.deref.ensures

pub returns-clause-after : goal.returns-clause-after
returns-clause-after g c = c.in-Ok.ensures.shelf

pub returns-clause-near : goal.returns-clause-near
returns-clause-near g c =
    let k : CourseTold = c.args.simulation.now.study.course.value in
    λ t. kept-near k c.args.simulation.now.study.stride c.args.simulation.now.places c.args.simulation.now.workers c.in-Ok.worked.shelf c.in-Ok.ensures.shelf
    (λ x i n. c.sure_states_are_held.ensures x i n)
    (c.rewinds_after_work.ensures.held k c.args.simulation.now.study.stride c.args.simulation.now.places c.args.simulation.now.workers c.in-Ok.worked.shelf c.in-Ok.ensures.shelf) t

pub returns-clause-rose : goal.returns-clause-rose
returns-clause-rose g c = c.in-Ok.ensures.rose

pub returns-in_default-last_events-clause-least : goal.returns-in_default-last_events-clause-least
returns-in_default-last_events-clause-least g c = c.simulate.ensures.least

pub returns-clause-least : goal.returns-clause-least
returns-clause-least g c = c.simulate.ensures.least
