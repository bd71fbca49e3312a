use Rattle.std.proofs.Common.{◌≡◌, ◌≤◌, ℕ, IfSome, sym, ap, ◌∙◌, arith, subst}
use Rattle.std.specs.Prelude.{min}
use Rattle.branch_tree.specs.Segments.{segment_at}
use Rattle.market_floor.specs.declared.opening.Opening.{Opening}
use Rattle.kernel_copy.specs.Courses.{CourseTold}
use Rattle.kernel_copy.specs.Full.{full}
use Rattle.kernel_copy.specs.Segmentwise.{segment_end}
use Rattle.rewind_desk.specs.Nearest.{IsHeld}
use Rattle.rewind_desk.specs.Reach.{IsAt}
use Rattle.rewind_desk.proofs.Arrivals.{at-last}
use Rattle.rewind_desk.proofs.Lasts.{best-is}
use Rattle.rewind_desk.proofs.Nears.{arrived, chain-of, held-at, last-within}
use Rattle.rewind_desk.proofs.desk.reached.Goals as goal

pub reach-requires-clause-within : goal.reach-requires-clause-within
reach-requires-clause-within g c =
    omega (arith, ap (λ (o : Opening). o.limit) c.opening.ensures.value, c.min-most.ensures)

pub reach-requires-clause-held : goal.reach-requires-clause-held
reach-requires-clause-held g c =
    let k : CourseTold = c.args.course.now in
    let b = c.args.branch in
    let s = c.last_segment-last.result in
    let course = c.opening.ensures.course in
    let last = c.last_segment-last.ensures.last in
    let near = c.nearest_to-near.result in
    let nearest = c.nearest_to-near.ensures in
    let limit = ap (λ (o : Opening). o.limit) c.opening.ensures.value in
    let most : (segment_end k.opening k.plan (segment_at k.plan s)).state.events ≤ k.opening.limit =
    subst (λ (x : ℕ). (segment_end k.opening k.plan (segment_at k.plan x)).state.events ≤ k.opening.limit) (sym last) (last-within k b course c.requires.branch) in
    let same : min c.args.event k.opening.limit ≡ c.min-most.result = omega (arith, limit, c.min-most.ensures) in
    subst (λ (x : ℕ). IfSome near (IsHeld c.args.shelf.now x)) same
    (held-at c.args.shelf.now k s c.args.event k.opening.limit near c.requires.shelf course c.last_segment-last.ensures.exists most nearest.held
    (chain-of c.args.shelf.now k s near c.requires.shelf nearest.chain))

pub reach-requires-clause-chain : goal.reach-requires-clause-chain
reach-requires-clause-chain g c =
    chain-of c.args.shelf.now c.args.course.now c.last_segment-last.result c.nearest_to-near.result c.requires.shelf c.nearest_to-near.ensures.chain

pub reach-requires-clause-count : goal.reach-requires-clause-count
reach-requires-clause-count g c =
    let best = best-is c.args.shelf.now c.args.course.now c.args.branch c.args.event c.last_segment-last.result _ c.requires.shelf c.last_segment-last.ensures.last c.nearest_to-near.ensures.most in
    omega (arith, best, c.requires.count, c.min-most.ensures)

pub returns-in_default-clause-most : goal.returns-in_default-clause-most
returns-in_default-clause-most g c =
    let best = best-is c.args.shelf.now c.args.course.now c.args.branch c.args.event c.last_segment-last.result _ c.requires.shelf c.last_segment-last.ensures.last c.nearest_to-near.ensures.most in
    omega (arith, best, c.reach.ensures.most, c.min-most.ensures)

pub returns-clause-most : goal.returns-clause-most
returns-clause-most g c =
    let best = best-is c.args.shelf.now c.args.course.now c.args.branch c.args.event c.last_segment-last.result _ c.requires.shelf c.last_segment-last.ensures.last c.nearest_to-near.ensures.most in
    omega (arith, best, c.reach.ensures.most, c.min-most.ensures)

pub returns-clause-from : goal.returns-clause-from
returns-clause-from g c =
    c.events_of.ensures
    ∙ best-is c.args.shelf.now c.args.course.now c.args.branch c.args.event c.last_segment-last.result _ c.requires.shelf c.last_segment-last.ensures.last c.nearest_to-near.ensures.most

pub returns-clause-ticks : goal.returns-clause-ticks
returns-clause-ticks g c = omega (arith, c.events_of.ensures, c.in-Ok.ensures.ticks)

pub returns-clause-whole : goal.returns-clause-whole
returns-clause-whole g c =
    let k : CourseTold = c.args.course.now in
    let limit = ap (λ (o : Opening). o.limit) c.opening.ensures.value in
    (arrived k c.args.branch c.args.event c.min-most.result c.in-Ok.arrival.kernel c.in-Ok.arrival.has_more c.opening.ensures.course c.requires.branch (omega (arith, limit, c.min-most.ensures))
    (subst (λ (s : ℕ). IsAt k s c.min-most.result c.in-Ok.arrival.kernel c.in-Ok.arrival.has_more) c.last_segment-last.ensures.last c.in-Ok.ensures.at)).whole

pub returns-clause-state : goal.returns-clause-state
returns-clause-state g c =
    let k : CourseTold = c.args.course.now in
    let limit = ap (λ (o : Opening). o.limit) c.opening.ensures.value in
    (arrived k c.args.branch c.args.event c.min-most.result c.in-Ok.arrival.kernel c.in-Ok.arrival.has_more c.opening.ensures.course c.requires.branch (omega (arith, limit, c.min-most.ensures))
    (subst (λ (s : ℕ). IsAt k s c.min-most.result c.in-Ok.arrival.kernel c.in-Ok.arrival.has_more) c.last_segment-last.ensures.last c.in-Ok.ensures.at)).state

pub returns-clause-along : goal.returns-clause-along
returns-clause-along g c few =
    let k : CourseTold = c.args.course.now in
    let b = c.args.branch in
    let limit = ap (λ (o : Opening). o.limit) c.opening.ensures.value in
    let same : c.min-most.result ≡ c.args.event = omega (arith, limit, c.min-most.ensures, few) in
    at-last k b c.min-most.result c.in-Ok.arrival.kernel c.in-Ok.arrival.has_more c.opening.ensures.course c.requires.branch (omega (arith, same, few))
    (subst (λ (s : ℕ). IsAt k s c.min-most.result c.in-Ok.arrival.kernel c.in-Ok.arrival.has_more) c.last_segment-last.ensures.last c.in-Ok.ensures.at)
    ∙ ap (λ (x : ℕ). (full k.opening k.plan b x).state) same

pub returns-clause-exists : goal.returns-clause-exists
returns-clause-exists g c =
    let k : CourseTold = c.args.course.now in
    let limit = ap (λ (o : Opening). o.limit) c.opening.ensures.value in
    (arrived k c.args.branch c.args.event c.min-most.result c.in-Ok.arrival.kernel c.in-Ok.arrival.has_more c.opening.ensures.course c.requires.branch (omega (arith, limit, c.min-most.ensures))
    (subst (λ (s : ℕ). IsAt k s c.min-most.result c.in-Ok.arrival.kernel c.in-Ok.arrival.has_more) c.last_segment-last.ensures.last c.in-Ok.ensures.at)).exists

pub returns-clause-within : goal.returns-clause-within
returns-clause-within g c =
    let k : CourseTold = c.args.course.now in
    let limit = ap (λ (o : Opening). o.limit) c.opening.ensures.value in
    (arrived k c.args.branch c.args.event c.min-most.result c.in-Ok.arrival.kernel c.in-Ok.arrival.has_more c.opening.ensures.course c.requires.branch (omega (arith, limit, c.min-most.ensures))
    (subst (λ (s : ℕ). IsAt k s c.min-most.result c.in-Ok.arrival.kernel c.in-Ok.arrival.has_more) c.last_segment-last.ensures.last c.in-Ok.ensures.at)).within

pub returns-in_default-clause-keys : goal.returns-in_default-clause-keys
returns-in_default-clause-keys g c = c.nearest_to-near.ensures.of

pub returns-clause-keys : goal.returns-clause-keys
returns-clause-keys g c = c.nearest_to-near.ensures.of
