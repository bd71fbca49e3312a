use Rattle.std.proofs.Common.{◌≡◌, ◌+◌, ◌-◌, ◌*◌, ◌/◌, ◌<◌, ◌≤◌, ◌⊎◌, ℕ, List, inl, inr, max, refl, sym, ap, ◌∙◌, subst, arith, div-le_self, div-mul-le_self, mul-le-mul_right}
use Rattle.std.proofs.lemmas.Bool.{cases_lt}
use Rattle.branch_tree.specs.declared.segment.Segment.{Segment}
use Rattle.branch_tree.specs.Segments.{segment_at}
use Rattle.market_floor.specs.declared.opening.Opening.{Opening}
use Rattle.kernel_copy.specs.Courses.{CourseTold, IsCourse}
use Rattle.shelf_core.specs.Views.{times}
use Rattle.kernel_copy.specs.Ran.{RanTold, ran_told}
use Rattle.kernel_copy.specs.Segmentwise.{from_count}
use Rattle.shelf_core.proofs.Staying.{stays_then}
use Rattle.branch_workers.specs.Layout.{start_number, stop_number}
use Rattle.branch_workers.specs.Runs.{IsUnderway}
use Rattle.branch_workers.proofs.Multiples.{once_more, times_below, times_past, first_above, between}
use Rattle.branch_workers.proofs.Underway.{goes_later, begins_within, grid_from, grid_to, knows_none, knows_more, knows_ended, knows_all}
use Rattle.branch_workers.proofs.grid.pass_grid.Goals as goal

-- the greater of two numbers is one of them
either_max : (a b n : ℕ) → n ≡ max a b → (n ≤ a) ⊎ (n ≤ b)
either_max a b n is = elim (cases_lt a b) [
  | inl less ↦ inr (omega arith)
  | inr more ↦ inl (omega arith)
]

-- the multiple before the next one
before_next : (m stride : ℕ) → (m + 1 - 1) * stride ≡ m * stride
before_next m stride = let same : m + 1 - 1 ≡ m = omega arith in ap (λ (n : ℕ). n * stride) same

pub overflow_add-first : goal.overflow_add-first
overflow_add-first g c =
    let k : CourseTold = c.args.shift.now.course.now.value in
    let s = c.args.segment in
    let course : IsCourse k = subst IsCourse c.deref.ensures c.segment-g.ensures.course in
    let start = c.start_number-start.ensures
    ∙ ap (λ (x : Segment). start_number x.start) (c.segment-g.ensures.value ∙ ap (λ (x : CourseTold). segment_at x.plan s) c.deref.ensures) in
    let low = grid_from k s course c.requires.segment in
    let before = begins_within k s course c.requires.segment in
    let limit = course.opening.limit in
    let quotient = div-le_self c.max-after.result c.args.shift.now.stride in
    omega (arith, c.max-after.ensures, c.events-from.ensures, c.requires.begins)

pub overflow_mul-event : goal.overflow_mul-event
overflow_mul-event g c =
    let k : CourseTold = c.args.shift.now.course.now.value in
    let s = c.args.segment in
    let course : IsCourse k = subst IsCourse c.deref.ensures c.segment-g.ensures.course in
    let most = ap (λ (o : Opening). o.limit) c.opening.ensures.value ∙ ap (λ (x : CourseTold). x.opening.limit) c.deref-2.ensures in
    let stop = c.stop_number-stop.ensures
    ∙ ap (λ (m : ℕ). stop_number m c.segment-g.result.stop) most
    ∙ ap (λ (x : Segment). stop_number k.opening.limit x.stop) (c.segment-g.ensures.value ∙ ap (λ (x : CourseTold). segment_at x.plan s) c.deref.ensures) in
    let to = grid_to k s course c.requires.segment in
    let below = times_below c.args.shift.now.stride c.stop_number-stop.result c.loop-factor.factor c.requires.shelf.some
    (subst (λ (q : ℕ). c.loop-factor.factor < q) c.div_ceil-past.ensures c.loop-factor-test.true) in
    let limit = course.opening.limit in
    omega arith

pub loop-factor-init : goal.loop-factor-init
loop-factor-init g c =
    let k : CourseTold = c.args.shift.now.course.now.value in
    let s = c.args.segment in
    let a = c.max-after.result in
    let stride = c.args.shift.now.stride in
    let course : IsCourse k = subst IsCourse c.deref.ensures c.segment-g.ensures.course in
    let start = c.start_number-start.ensures
    ∙ ap (λ (x : Segment). start_number x.start) (c.segment-g.ensures.value ∙ ap (λ (x : CourseTold). segment_at x.plan s) c.deref.ensures) in
    let low = grid_from k s course c.requires.segment in
    let before = begins_within k s course c.requires.segment in
    let from = c.events-from.ensures in
    let begins = c.requires.begins in
    let greatest : a ≡ max c.start_number-start.result c.events-from.result = omega (arith, c.max-after.ensures) in
    let either = either_max c.start_number-start.result c.events-from.result a greatest in
    let over : c.events-from.result ≤ a = omega arith in
    let above = first_above stride a c.requires.shelf.some in
    let most = div-mul-le_self a stride in
    let next = before_next (a / stride) stride in
    let lowest : (a ≤ start_number (segment_at k.plan s).start) ⊎ (a ≤ from_count k.opening k.plan (segment_at k.plan s)) = elim either [
      | inl l ↦ inl (omega arith)
      | inr l ↦ inr (omega arith)
    ] in
    record {
      same = refl;
      stays = record { numbers = refl; claims = refl; counts = refl; known = λ key e. e; found = λ key e. e };
      turns = c.requires.turns;
      begins = omega arith;
      within = omega arith;
      underway = goes_later k c.args.shift.now.keep s 0 ((a / stride + 1 - 1) * stride) (ran_told c.args.ran.now) (omega arith) c.requires.underway;
      ticks = refl;
      grows = omega arith;
      known = knows_none k c.args.shift.now.shelf.now.plan stride s ((a / stride + 1) * stride) c.args.seat.now.view c.requires.shelf.grid a lowest
          (λ e more less. between stride (a / stride) e (omega arith) less);
    }

pub pass-requires-clause-within : goal.pass-requires-clause-within
pass-requires-clause-within g c =
    let k : CourseTold = c.args.shift.now.course.now.value in
    let s = c.args.segment in
    let course : IsCourse k = subst IsCourse c.deref.ensures c.segment-g.ensures.course in
    let most = ap (λ (o : Opening). o.limit) c.opening.ensures.value ∙ ap (λ (x : CourseTold). x.opening.limit) c.deref-2.ensures in
    let stop = c.stop_number-stop.ensures
    ∙ ap (λ (m : ℕ). stop_number m c.segment-g.result.stop) most
    ∙ ap (λ (x : Segment). stop_number k.opening.limit x.stop) (c.segment-g.ensures.value ∙ ap (λ (x : CourseTold). segment_at x.plan s) c.deref.ensures) in
    let to = grid_to k s course c.requires.segment in
    let below = times_below c.args.shift.now.stride c.stop_number-stop.result c.loop-factor.factor c.requires.shelf.some
    (subst (λ (q : ℕ). c.loop-factor.factor < q) c.div_ceil-past.ensures c.loop-factor-test.true) in
    omega arith

pub pass-requires-clause-underway : goal.pass-requires-clause-underway
pass-requires-clause-underway g c =
    let n = c.loop-factor.factor in
    let stride = c.args.shift.now.stride in
    let less : n - 1 ≤ n = omega arith in
    goes_later c.args.shift.now.course.now.value c.args.shift.now.keep c.args.segment ((n - 1) * stride) (n * stride) (ran_told c.loop-factor.ran) (mul-le-mul_right stride less) c.loop-factor.invariant.underway

pub loop-factor-preserved : goal.loop-factor-preserved
loop-factor-preserved g c =
    let k : CourseTold = c.args.shift.now.course.now.value in
    let s = c.args.segment in
    let n = c.loop-factor.factor in
    let stride = c.args.shift.now.stride in
    let v = c.loop-factor.invariant in
    let course : IsCourse k = subst IsCourse c.deref.ensures c.segment-g.ensures.course in
    let most = ap (λ (o : Opening). o.limit) c.opening.ensures.value ∙ ap (λ (x : CourseTold). x.opening.limit) c.deref-2.ensures in
    let stop = c.stop_number-stop.ensures
    ∙ ap (λ (m : ℕ). stop_number m c.segment-g.result.stop) most
    ∙ ap (λ (x : Segment). stop_number k.opening.limit x.stop) (c.segment-g.ensures.value ∙ ap (λ (x : CourseTold). segment_at x.plan s) c.deref.ensures) in
    let to = grid_to k s course c.requires.segment in
    let below = times_below stride c.stop_number-stop.result n c.requires.shelf.some (subst (λ (q : ℕ). n < q) c.div_ceil-past.ensures c.loop-factor-test.true) in
    let next = once_more n stride in
    let here = before_next n stride in
    let stays = c.pass.ensures.stays in
    record {
      same = c.pass.ensures.same ∙ v.same;
      stays = record {
        numbers = stays.numbers ∙ v.stays.numbers;
        claims = stays.claims ∙ v.stays.claims;
        counts = stays.counts ∙ v.stays.counts;
        known = λ key e. stays.known key (v.stays.known key e);
        found = λ key e. stays.found key (v.stays.found key e);
      };
      turns = c.pass.ensures.turns;
      begins = omega (arith, v.begins);
      within = omega arith;
      underway = subst (λ (m : ℕ). IsUnderway k c.args.shift.now.keep s m (ran_told c.pass.new.ran)) (sym here) c.in-Ok.ensures.underway;
      ticks = omega (arith, v.ticks, c.pass.ensures.ticks);
      grows = omega (arith, v.grows, c.pass.ensures.grows);
      known = knows_more k c.args.shift.now.shelf.now.plan stride s (n * stride) c.loop-factor.seat.view c.requires.shelf.grid ((n + 1) * stride) c.pass.new.seat.view
          (λ e more less. between stride n e more less) v.known stays.known c.in-Ok.ensures.known;
    }

pub returns-then-not-on-clause-underway : goal.returns-then-not-on-clause-underway
returns-then-not-on-clause-underway g c =
    let k : CourseTold = c.args.shift.now.course.now.value in
    let s = c.args.segment in
    let n = c.loop-factor.factor in
    let stride = c.args.shift.now.stride in
    let course : IsCourse k = subst IsCourse c.deref.ensures c.segment-g.ensures.course in
    let most = ap (λ (o : Opening). o.limit) c.opening.ensures.value ∙ ap (λ (x : CourseTold). x.opening.limit) c.deref-2.ensures in
    let stop = c.stop_number-stop.ensures
    ∙ ap (λ (m : ℕ). stop_number m c.segment-g.result.stop) most
    ∙ ap (λ (x : Segment). stop_number k.opening.limit x.stop) (c.segment-g.ensures.value ∙ ap (λ (x : CourseTold). segment_at x.plan s) c.deref.ensures) in
    let to = grid_to k s course c.requires.segment in
    let below = times_below stride c.stop_number-stop.result n c.requires.shelf.some (subst (λ (q : ℕ). n < q) c.div_ceil-past.ensures c.loop-factor-test.true) in
    goes_later k c.args.shift.now.keep s (n * stride) k.opening.limit (ran_told c.pass.new.ran) (omega arith) c.in-Ok.ensures.underway

pub returns-then-not-on-clause-known : goal.returns-then-not-on-clause-known
returns-then-not-on-clause-known g c =
    let k : CourseTold = c.args.shift.now.course.now.value in
    let n = c.loop-factor.factor in
    let v = c.loop-factor.invariant in
    knows_ended k c.args.shift.now.shelf.now.plan c.args.shift.now.stride c.args.segment (n * c.args.shift.now.stride) c.loop-factor.seat.view c.requires.shelf.grid c.pass.new.seat.view
    v.begins v.known c.pass.ensures.stays.known (c.in-Ok.ensures.ended c.if-not-on.true)

pub returns-clause-underway : goal.returns-clause-underway
returns-clause-underway g c =
    let k : CourseTold = c.args.shift.now.course.now.value in
    let n = c.loop-factor.factor in
    let v = c.loop-factor.invariant in
    goes_later k c.args.shift.now.keep c.args.segment ((n - 1) * c.args.shift.now.stride) k.opening.limit (ran_told c.loop-factor.ran) v.within v.underway

pub returns-clause-known : goal.returns-clause-known
returns-clause-known g c =
    let k : CourseTold = c.args.shift.now.course.now.value in
    let s = c.args.segment in
    let n = c.loop-factor.factor in
    let stride = c.args.shift.now.stride in
    let course : IsCourse k = subst IsCourse c.deref.ensures c.segment-g.ensures.course in
    let most = ap (λ (o : Opening). o.limit) c.opening.ensures.value ∙ ap (λ (x : CourseTold). x.opening.limit) c.deref-2.ensures in
    let stop = c.stop_number-stop.ensures
    ∙ ap (λ (m : ℕ). stop_number m c.segment-g.result.stop) most
    ∙ ap (λ (x : Segment). stop_number k.opening.limit x.stop) (c.segment-g.ensures.value ∙ ap (λ (x : CourseTold). segment_at x.plan s) c.deref.ensures) in
    let plan = ap (λ (m : ℕ). stop_number m (segment_at k.plan s).stop) course.limit in
    let past = times_past stride c.stop_number-stop.result n c.requires.shelf.some (subst (λ (q : ℕ). q ≤ n) c.div_ceil-past.ensures c.loop-factor-test.false) in
    knows_all k c.args.shift.now.shelf.now.plan stride s (n * stride) c.loop-factor.seat.view c.requires.shelf.grid (omega arith) c.loop-factor.invariant.known

pub returns-in_default-clause-stays : goal.returns-in_default-clause-stays
returns-in_default-clause-stays g c =
    stays_then c.args.seat.now.view c.loop-factor.seat.view c.pass.new.seat.view c.loop-factor.invariant.stays c.pass.ensures.stays

pub returns-then-not-on-clause-stays : goal.returns-then-not-on-clause-stays
returns-then-not-on-clause-stays g c =
    stays_then c.args.seat.now.view c.loop-factor.seat.view c.pass.new.seat.view c.loop-factor.invariant.stays c.pass.ensures.stays

pub returns-clause-stays : goal.returns-clause-stays
returns-clause-stays g c = c.loop-factor.invariant.stays

pub pass-requires-clause-begins : goal.pass-requires-clause-begins
pass-requires-clause-begins g c = c.loop-factor.invariant.begins

pub pass-requires-clause-claim : goal.pass-requires-clause-claim
pass-requires-clause-claim g c = subst (λ (claims : List ℕ). 0 < times c.args.segment claims) (sym c.loop-factor.invariant.stays.claims) c.requires.claim

pub pass-requires-clause-course : goal.pass-requires-clause-course
pass-requires-clause-course g c = c.requires.shelf.course

pub pass-requires-clause-seat : goal.pass-requires-clause-seat
pass-requires-clause-seat g c = c.loop-factor.invariant.same ∙ c.requires.seat

pub pass-requires-clause-segment : goal.pass-requires-clause-segment
pass-requires-clause-segment g c = c.requires.segment

pub pass-requires-clause-turns : goal.pass-requires-clause-turns
pass-requires-clause-turns g c = c.loop-factor.invariant.turns

pub returns-clause-few : goal.returns-clause-few
returns-clause-few g c = let u = c.loop-factor.invariant.underway in omega (arith, ap (λ (x : RanTold). x.state.events) u.is, u.few)

pub returns-clause-grows : goal.returns-clause-grows
returns-clause-grows g c = c.loop-factor.invariant.grows

pub returns-clause-same : goal.returns-clause-same
returns-clause-same g c = c.loop-factor.invariant.same

pub returns-clause-ticks : goal.returns-clause-ticks
returns-clause-ticks g c = c.loop-factor.invariant.ticks

pub returns-clause-turns : goal.returns-clause-turns
returns-clause-turns g c = c.loop-factor.invariant.turns

pub returns-in_default-clause-few : goal.returns-in_default-clause-few
returns-in_default-clause-few g c = c.pass.ensures.few

pub returns-in_default-clause-grows : goal.returns-in_default-clause-grows
returns-in_default-clause-grows g c = omega (arith, c.pass.ensures.grows, c.loop-factor.invariant.grows)

pub returns-in_default-clause-ticks : goal.returns-in_default-clause-ticks
returns-in_default-clause-ticks g c = omega (arith, c.pass.ensures.ticks, c.loop-factor.invariant.ticks)

pub returns-in_default-clause-same : goal.returns-in_default-clause-same
returns-in_default-clause-same g c = c.pass.ensures.same ∙ c.loop-factor.invariant.same

pub returns-in_default-clause-turns : goal.returns-in_default-clause-turns
returns-in_default-clause-turns g c = c.pass.ensures.turns

pub returns-then-not-on-clause-few : goal.returns-then-not-on-clause-few
returns-then-not-on-clause-few g c = c.pass.ensures.few

pub returns-then-not-on-clause-grows : goal.returns-then-not-on-clause-grows
returns-then-not-on-clause-grows g c = omega (arith, c.pass.ensures.grows, c.loop-factor.invariant.grows)

pub returns-then-not-on-clause-ticks : goal.returns-then-not-on-clause-ticks
returns-then-not-on-clause-ticks g c = omega (arith, c.pass.ensures.ticks, c.loop-factor.invariant.ticks)

pub returns-then-not-on-clause-same : goal.returns-then-not-on-clause-same
returns-then-not-on-clause-same g c = c.pass.ensures.same ∙ c.loop-factor.invariant.same

pub returns-then-not-on-clause-turns : goal.returns-then-not-on-clause-turns
returns-then-not-on-clause-turns g c = c.pass.ensures.turns
