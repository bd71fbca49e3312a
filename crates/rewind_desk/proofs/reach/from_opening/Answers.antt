use Rattle.std.proofs.Common.{◌≡◌, ℕ, ◌+◌, IfOk, ap, ◌∙◌, subst, arith}
use Rattle.market_floor.specs.declared.opening.Opening.{Opening}
use Rattle.kernel_core.specs.Open.{opened}
use Rattle.kernel_core.specs.State.{State}
use Rattle.kernel_core.specs.Step.{Fits}
use Rattle.kernel_copy.specs.Courses.{CourseTold}
use Rattle.rewind_desk.proofs.Arrivals.{from-opening}
use Rattle.rewind_desk.proofs.reach.from_opening.Goals as goal

pub arrive-requires-clause-fits : goal.arrive-requires-clause-fits
arrive-requires-clause-fits g c = subst (λ (o : Opening). Fits o c.in-Ok.kernel) c.opening.ensures.value c.in-Ok.ensures.fitting

pub arrive-requires-clause-on : goal.arrive-requires-clause-on
arrive-requires-clause-on g c =
    let k : CourseTold = c.args.course.now in
    from-opening k c.args.segment c.in-Ok.kernel c.opening.ensures.course c.requires.segment c.requires.first
    (c.in-Ok.ensures.opened ∙ ap (λ (o : Opening). opened o) c.opening.ensures.value)

pub arrive-requires-clause-early : goal.arrive-requires-clause-early
arrive-requires-clause-early g c = omega (arith, ap (λ (s : State). s.events) c.in-Ok.ensures.opened)

pub arrive-requires-clause-count : goal.arrive-requires-clause-count
arrive-requires-clause-count g c = omega (arith, c.requires.count)

pub returns-clause-ticks : goal.returns-clause-ticks
returns-clause-ticks g c =
    let none : c.arrive.new.steps + c.in-Ok.kernel.events ≡ c.arrive.new.steps = omega (arith, ap (λ (s : State). s.events) c.in-Ok.ensures.opened) in
    subst (λ (n : ℕ). IfOk c.arrive.result (λ a. n ≡ c.args.steps.now + a.kernel.events)) none c.arrive.ensures.ticks

pub returns-clause-most : goal.returns-clause-most
returns-clause-most g c = omega (arith, c.arrive.ensures.most)
