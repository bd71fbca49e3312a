use Rattle.std.proofs.Common.{◌<◌, ◌∷◌, [], ℕ, List, length, sym, ap, ◌∙◌, subst, arith, length-append}
use Rattle.shelf_core.specs.Views.{times}
use Rattle.shelf_core.specs.declared.seat.SeatView.{SeatView}
use Rattle.branch_tests.proofs.branch_workers_tests.seats.claim_meet_and_run.Goals as goal

pub refusal-word-requires-clause-turns : goal.refusal-word-requires-clause-turns
refusal-word-requires-clause-turns g c = ap (λ (v : SeatView). v.turns) (c.claim.ensures.claimed c.if-not-claim.false).0 ∙ c.requires.turns

pub run_segment-ran-requires-clause-claim : goal.run_segment-ran-requires-clause-claim
run_segment-ran-requires-clause-claim g c =
    subst (λ (claims : List ℕ). 0 < times c.args.key.segment claims) (sym c.refusal-word.ensures.stays.claims) (c.claim.ensures.mine c.if-not-claim.false)

pub run_segment-ran-requires-clause-more : goal.run_segment-ran-requires-clause-more
run_segment-ran-requires-clause-more g c =
    let is = (c.claim.ensures.claimed c.if-not-claim.false).0 in
    let a = ap (λ (v : SeatView). v.counts) is in
    let b = ap (λ (v : SeatView). length v.claims) is in
    let l = length-append c.args.seat.now.view.claims (c.args.key.segment ∷ []) in
    let d = c.refusal-word.ensures.stays.counts in
    let e = ap (λ (claims : List ℕ). length claims) c.refusal-word.ensures.stays.claims in
    omega (arith, c.requires.counts)

pub run_segment-ran-requires-clause-count : goal.run_segment-ran-requires-clause-count
run_segment-ran-requires-clause-count g c = omega (arith, c.segments_have_few_events.ensures.each c.args.key.segment c.requires.segment)
