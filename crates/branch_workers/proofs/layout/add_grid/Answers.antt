use Rattle.std.proofs.Common.{ℕ, List, ◌+◌, ◌-◌, ◌/◌, ◌<◌, ◌++◌, sym, ap, ◌∙◌, subst, arith, div-le_self}
use Rattle.shelf_core.specs.declared.plan.Key.{Key}
use Rattle.branch_workers.specs.Layout.{multiples_from, start_number, stop_number}
use Rattle.branch_workers.proofs.Multiples.{each_from, multiples_are, times_below, joins, joined}
use Rattle.branch_workers.proofs.layout.add_grid.Goals as goal

pub overflow_add-first : goal.overflow_add-first
overflow_add-first c = omega (arith, div-le_self c.start_number-start.result c.args.stride, c.start_number-start.ensures, c.requires.start)

pub overflow_mul-event : goal.overflow_mul-event
overflow_mul-event c =
    let below = times_below c.args.stride c.stop_number-stop.result c.loop-factor.factor c.requires.stride
    (subst (λ (q : ℕ). c.loop-factor.factor < q) c.div_ceil-past.ensures c.loop-factor-test.true) in
    omega arith

pub loop-factor-init : goal.loop-factor-init
loop-factor-init c =
    let stride = c.args.stride in
    let s = c.args.number in
    let keys : List Key = c.args.keys.now in
    let start = start_number c.args.segment.start in
    let stop = stop_number c.args.limit c.args.segment.stop in
    let a = c.start_number-start.result in
    ap (λ (q : ℕ). keys ++ each_from stride s (a / stride + 1) (q - (a / stride + 1))) c.div_ceil-past.ensures
    ∙ sym (ap (λ (xs : List Key). keys ++ xs) (multiples_are stride s a c.stop_number-stop.result c.requires.stride))
    ∙ ap (λ (n : ℕ). keys ++ multiples_from stride s (n + 1) (c.stop_number-stop.result - (n + 1))) c.start_number-start.ensures
    ∙ ap (λ (b : ℕ). keys ++ multiples_from stride s (start + 1) (b - (start + 1))) c.stop_number-stop.ensures

pub loop-factor-preserved : goal.loop-factor-preserved
loop-factor-preserved c =
    joins c.args.stride c.args.number c.loop-factor.factor c.div_ceil-past.result c.loop-factor.keys _ _ (omega (arith, c.loop-factor-test.true)) c.in_ok-push.ensures.pushed c.loop-factor.invariant

pub returns : goal.returns
returns c = joined c.args.stride c.args.number c.loop-factor.factor c.div_ceil-past.result c.loop-factor.keys _ (omega (arith, c.loop-factor-test.false)) c.loop-factor.invariant
