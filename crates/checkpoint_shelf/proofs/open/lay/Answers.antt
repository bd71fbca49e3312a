use Rattle.std.proofs.Common.{arith, ◌∙◌, ◌+◌, ap, sym, subst}
use Rattle.shelf_core.specs.Plan.{place_count}
use Rattle.checkpoint_shelf.specs.Holds.{AboutFits}
use Rattle.checkpoint_shelf.proofs.Opens.{opens_at}
use Rattle.checkpoint_shelf.proofs.open.lay.Goals as goal

pub vacant-requires : goal.vacant-requires
vacant-requires g c = let e = c.len.ensures in opens_at _ _ _ c.args.about c.as_slice.result.now (c.len.result + c.args.about.plan.places) c.requires.fits (omega arith) (c.as_slice.ensures.value ∙ c.in-Ok.ensures.items_if_clones_equal (λ y e. e))

pub invariant_of-result : goal.invariant_of-result
invariant_of-result g c =
    let e = c.in-Ok-vacant.ensures in
    let plan = ap (λ k. k.plan) e.5 in (
      plan,
      subst AboutFits (sym e.5) c.requires.fits,
      e.0 ∙ c.as_slice.ensures.len ∙ c.in-Ok.ensures.len ∙ ap (λ n. 1 + (n + c.args.about.plan.places) + c.args.about.plan.segments) c.len.ensures ∙ ap (λ p. 1 + place_count p + p.segments) (sym plan),
      e.1 ∙ ap (λ n. n + c.args.about.plan.places) c.len.ensures ∙ ap place_count (sym plan),
    )

pub returns-in-Ok-vacant-clause-shelf : goal.returns-in-Ok-vacant-clause-shelf
returns-in-Ok-vacant-clause-shelf g c =
    let e = c.in-Ok-vacant.ensures in (ap (λ k. k.plan) e.5, ap (λ k. k.seats) e.5, ap (λ k. k.course.value) e.5)

pub returns-in-Ok-vacant-clause-seat : goal.returns-in-Ok-vacant-clause-seat
returns-in-Ok-vacant-clause-seat g c = let e = c.in-Ok-vacant.ensures in (e.2, e.4)
