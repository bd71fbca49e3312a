use Rattle.std.proofs.Common.{◌≡◌, ◌+◌, ◌*◌, ℕ, ℤ, List, true, sym, subst, arith, All}
use Rattle.std.specs.Prelude.{◌^◌}
use Rattle.market_rules.specs.EditRanges.{is_near_zero}
use Rattle.kernel_tests.proofs.Testing.{all-near, opened-drops, opened-near, plain-edit}
use Rattle.kernel_tests.proofs.kernel_examples.branch.Goals as goal

pub loop-i-init : goal.loop-i-init
loop-i-init g c =
    let o = c.args.o.now in
    let k = c.opened-kernel.result in
    record {
      fits = c.opened-kernel.ensures.fits;
      near = opened-near o k c.opened-kernel.ensures.opened;
      drops = omega (arith, opened-drops o k c.requires.opening c.opened-kernel.ensures.opened);
    }

pub apply-answer-requires-clause-edit : goal.apply-answer-requires-clause-edit
apply-answer-requires-clause-edit g c =
    plain-edit c.args.o.now c.run.new.kernel _ c.run.ensures.fits (c.requires.plain c.loop-i.i c.index-edits-i-in-loop-i.result c.loop-i-test.true)

pub apply-answer-requires-clause-offsets : goal.apply-answer-requires-clause-offsets
apply-answer-requires-clause-offsets g c =
    let far = 2000000000 * c.loop-i.i in
    let here = subst (λ (zs : List ℤ). All (λ (z : ℤ). is_near_zero far z ≡ true) zs) (sym c.run.ensures.offsets) c.loop-i.invariant.near in
    all-near far (2 ^ 62) _ (omega (arith, c.loop-i-test.true, c.requires.few)) here

pub loop-i-preserved : goal.loop-i-preserved
loop-i-preserved g c =
    let far = 2000000000 * c.loop-i.i in
    let v = c.loop-i.invariant in
    let here = subst (λ (zs : List ℤ). All (λ (z : ℤ). is_near_zero far z ≡ true) zs) (sym c.run.ensures.offsets) v.near in
    let next : far + 2000000000 ≡ 2000000000 * (c.loop-i.i + 1) = omega arith in
    record {
      fits = c.apply-answer.ensures.fitting;
      near = subst (λ (n : ℕ). All (λ (z : ℤ). is_near_zero n z ≡ true) c.apply-answer.new.self.floor.offsets) next (c.apply-answer.ensures.offsets far here);
      drops = omega (arith, c.apply-answer.ensures.dropped, c.run.ensures.drops, v.drops);
    }
