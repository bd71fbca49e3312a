use Rattle.std.proofs.Common.{ℕ, List, true≢false, refl, sym, ◌∙◌, subst}
use Rattle.branch_workers.specs.Workers.{IsAtWork}
use Rattle.branch_workers.proofs.Standing.{ends_here, finishes_here}
use Rattle.branch_workers.proofs.worker.run_worker.Goals as goal

pub try_segment-requires-clause-work : goal.try_segment-requires-clause-work
try_segment-requires-clause-work g c =
    let w = c.loop.worker in
    subst (λ (ps : List ℕ). IsAtWork c.args.shift.now.course.now.value c.args.shift.now.keep c.args.shift.now.shelf.now w.number w.seat w.steps w.outcomes.items ps) (sym c.next_segment.ensures.pushed) c.loop.invariant.work

pub ends-requires-clause-work : goal.ends-requires-clause-work
ends-requires-clause-work g c =
    let w = c.loop.worker in
    subst (λ (ps : List ℕ). IsAtWork c.args.shift.now.course.now.value c.args.shift.now.keep c.args.shift.now.shelf.now w.number w.seat w.steps w.outcomes.items ps) (sym c.next_segment.ensures.pushed) c.loop.invariant.work

pub returns-then-not-try_segment-clause-finished : goal.returns-then-not-try_segment-clause-finished
returns-then-not-try_segment-clause-finished g c = λ e. absurd (true≢false (sym e ∙ c.try_segment.ensures.finished ∙ c.loop.invariant.finished))

pub returns-then-not-try_segment-clause-counted : goal.returns-then-not-try_segment-clause-counted
returns-then-not-try_segment-clause-counted g c = λ e. absurd (true≢false (sym e ∙ c.try_segment.ensures.finished ∙ c.loop.invariant.finished))

pub returns-then-ends-clause-ended : goal.returns-then-ends-clause-ended
returns-then-ends-clause-ended g c =
    let w = c.ends.new.worker in
    ends_here c.args.shift.now.course.now.value c.args.shift.now.keep c.args.shift.now.shelf.now w.number w.seat w.steps w.outcomes.items w.lane.own.view.pushed c.ends.ensures.work

pub returns-then-ends-clause-finished : goal.returns-then-ends-clause-finished
returns-then-ends-clause-finished g c = λ e.
    let w = c.ends.new.worker in
    finishes_here c.args.shift.now.course.now.value c.args.shift.now.keep c.args.shift.now.shelf.now w.number w.seat w.steps w.outcomes.items w.lane.own.view.pushed c.ends.ensures.work (c.ends.ensures.done e)

pub returns-then-ends-clause-counted : goal.returns-then-ends-clause-counted
returns-then-ends-clause-counted g c = λ e. c.ends.ensures.work.counted

pub loop-preserved : goal.loop-preserved
loop-preserved g c = record {
  can = tt;
  fin = tt;
  number = c.ends.ensures.number ∙ c.loop.invariant.number;
  finished = c.ends.ensures.goes_on c.if-ends.false;
  work = c.ends.ensures.work;
}

pub loop-preserved-else-not-try_segment : goal.loop-preserved-else-not-try_segment
loop-preserved-else-not-try_segment g c = record {
  can = tt;
  fin = tt;
  number = c.try_segment.ensures.number ∙ c.loop.invariant.number;
  finished = c.try_segment.ensures.finished ∙ c.loop.invariant.finished;
  work = c.try_segment.ensures.work c.if-not-try_segment.false;
}

pub loop-init : goal.loop-init
loop-init g c = record { can = tt; fin = tt; number = refl; finished = c.requires.finished; work = c.requires.work }

pub returns-then-not-try_segment-clause-ended : goal.returns-then-not-try_segment-clause-ended
returns-then-not-try_segment-clause-ended g c = c.try_segment.ensures.ended c.if-not-try_segment.true

pub returns-then-not-try_segment-clause-stopped : goal.returns-then-not-try_segment-clause-stopped
returns-then-not-try_segment-clause-stopped g c = λ _. c.try_segment.ensures.stopped c.if-not-try_segment.true

pub returns-then-ends-clause-stopped : goal.returns-then-ends-clause-stopped
returns-then-ends-clause-stopped g c = c.ends.ensures.stopped c.if-ends.true

pub ends-requires-clause-finished : goal.ends-requires-clause-finished
ends-requires-clause-finished g c = c.loop.invariant.finished

pub try_segment-requires-clause-shelf : goal.try_segment-requires-clause-shelf
try_segment-requires-clause-shelf g c = c.requires.shelf

pub try_segment-requires-clause-room : goal.try_segment-requires-clause-room
try_segment-requires-clause-room g c = c.requires.room

pub returns-then-ends-clause-number : goal.returns-then-ends-clause-number
returns-then-ends-clause-number g c = c.ends.ensures.number ∙ c.loop.invariant.number

pub returns-then-not-try_segment-clause-number : goal.returns-then-not-try_segment-clause-number
returns-then-not-try_segment-clause-number g c = c.try_segment.ensures.number ∙ c.loop.invariant.number

pub returns-clause-ended : goal.returns-clause-ended
returns-clause-ended g c = absurd (true≢false (sym c.in-None.ensures.steps))

pub returns-clause-stopped : goal.returns-clause-stopped
returns-clause-stopped g c = absurd (true≢false (sym c.in-None.ensures.steps))

pub returns-clause-finished : goal.returns-clause-finished
returns-clause-finished g c = absurd (true≢false (sym c.in-None.ensures.steps))

pub returns-clause-counted : goal.returns-clause-counted
returns-clause-counted g c = absurd (true≢false (sym c.in-None.ensures.steps))

pub returns-clause-number : goal.returns-clause-number
returns-clause-number g c = absurd (true≢false (sym c.in-None.ensures.steps))
