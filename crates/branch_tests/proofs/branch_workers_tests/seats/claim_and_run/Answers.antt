use Rattle.std.proofs.Common.{◌∷◌, [], length, ap, ◌∙◌, arith, length-append}
use Rattle.shelf_core.specs.declared.seat.SeatView.{SeatView}
use Rattle.branch_tests.proofs.branch_workers_tests.seats.claim_and_run.Goals as goal

pub run_segment-ran-requires-clause-more : goal.run_segment-ran-requires-clause-more
run_segment-ran-requires-clause-more g c =
    let is = (c.claim.ensures.claimed c.if-not-claim.false).0 in
    let a = ap (λ (v : SeatView). v.counts) is in
    let b = ap (λ (v : SeatView). length v.claims) is in
    let l = length-append c.args.seat.now.view.claims (c.args.segment ∷ []) in
    omega (arith, c.requires.counts)

pub run_segment-ran-requires-clause-turns : goal.run_segment-ran-requires-clause-turns
run_segment-ran-requires-clause-turns g c = ap (λ (v : SeatView). v.turns) (c.claim.ensures.claimed c.if-not-claim.false).0 ∙ c.requires.turns

pub run_segment-ran-requires-clause-count : goal.run_segment-ran-requires-clause-count
run_segment-ran-requires-clause-count g c = omega (arith, c.segments_have_few_events.ensures.each c.args.segment c.requires.segment)
