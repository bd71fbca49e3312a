use Rattle.std.proofs.Common.{ℕ, length, ap, ◌∙◌, arith, rules, length-append}
use Rattle.std.specs.List.{sum}
use Rattle.std.specs.Slice.Iter.{chunks_rest}
use Rattle.std.proofs.lemmas.List.{nil_from_length}
use Rattle.std.proofs.lemmas.List.Sums.{sum_by-append}
use Rattle.kernel_copy.proofs.tally.total.Goals as goal

pub loop-part-init : goal.loop-part-init
loop-part-init c = (search rules, tt, search rules, search rules, search rules)

pub loop-part-preserved : goal.loop-part-preserved
loop-part-preserved c =
    let part = c.in-Some.part.now in
    let steps = c.in-Some.ensures.steps in
    let rest = chunks_rest c.next.new.self in
    let parts = steps.1.0 in
    let sums = ap sum parts ∙ sum_by-append (λ (b : ℕ). b) part rest in
    let sizes = ap length parts ∙ length-append part rest in (
      search rules,
      tt,
      steps.0 ∙ c.loop-part.invariant.2,
      omega (arith, sums, c.part_total.ensures.value, c.loop-part.invariant.3),
      omega (arith, sizes, c.part_total.ensures.small, c.loop-part.invariant.4),
    )

pub returns-clause-value : goal.returns-clause-value
returns-clause-value c =
    let none = nil_from_length _ c.in-None.ensures.steps.1.0 in
    omega (arith, c.loop-part.invariant.3, ap sum none)

pub returns-clause-small : goal.returns-clause-small
returns-clause-small c = omega (arith, c.loop-part.invariant.4)
