use Rattle.std.proofs.Common.{arith, ◌≡◌, ◌+◌, sym, ap, subst, ◌∙◌, ◌<◌}
use Rattle.shelf_core.specs.Plan.{place_count}
use Rattle.shelf_core.specs.Views.{times}
use Rattle.shelf_core.specs.After.{with_claim}
use Rattle.checkpoint_shelf.specs.Holds.{IsSeat}
use Rattle.shelf_core.specs.declared.words.ClaimWord.TheVariants.{Taken}
use Rattle.shelf_core.specs.declared.words.Word.TheVariants.{Claim as claim_word}
use Rattle.shelf_core.specs.declared.words.Seen.TheVariants.{Claim as claim_seen}
use Rattle.shelf_core.specs.declared.event.Event.TheVariants.{Claim}
use Rattle.shelf_core.specs.Made.{Makes, Sees, Same, Stays}
use Rattle.checkpoint_shelf.proofs.Words.{claims}
use Rattle.shelf_core.proofs.Staying.{sees_same, sees_stays}
use Rattle.shelf_core.proofs.Facts.{at_true, at_false}
use Rattle.checkpoint_shelf.proofs.Calls.{one_about, claim_seat, claimed_end, shown, seat_told, same_shelf}
use Rattle.checkpoint_shelf.proofs.shelf.Shelf.claim.Goals as goal

pub compare_exchange-found-requires : goal.compare_exchange-found-requires
compare_exchange-found-requires g c =
    let e = seat_told _ _ _ _ _ c.seat.invariant.1 (ap (λ s. s.shelf) c.seat.view_is ∙ c.requires.seat) ∙ sym c.self.view_is in
    let k = one_about _ _ _ _ e in
    let seat = subst (λ a. IsSeat a c.seat.inside.number c.seat.inside.seat.me) k c.seat.invariant.1 in
    let forks = c.len.ensures in let slots = c.self.invariant.3 in let words = c.self.invariant.2 in let gap = c.requires.segment in
    let n = ap (λ s. s.plan.segments) c.self.view_is in
    let segs = ap (λ p. p.segments) c.self.invariant.0 in
    let count = ap place_count c.self.invariant.0 in
    let mine = c.from-mine.ensures in
    (ap (λ t. t.table) e, omega arith, claims _ _ _ c.self.inside.table.shared.key _ _ c.seat.inside.number _ _ c.args.segment _ seat (omega arith) (omega arith) (omega arith) (omega arith))

pub invariant_of-seat : goal.invariant_of-seat
invariant_of-seat g c =
    let slots = c.self.invariant.3 in let forks = c.len.ensures in let count = ap place_count c.self.invariant.0 in
    (c.seat.invariant.0, claim_seat c.seat.invariant.0 c.seat.inside.number c.seat.inside.seat.me c.compare_exchange-found.new.seat.me c.seat.invariant.1 c.self.inside.table.shared.table_id.slots (1 + c.len.result + c.self.inside.plan.places + c.args.segment) c.args.segment 0 c.compare_exchange-found.result (omega arith) c.compare_exchange-found.ensures.2)

pub returns-clause-same : goal.returns-clause-same
returns-clause-same g c =
    let slots = c.self.invariant.3 in let forks = c.len.ensures in let count = ap place_count c.self.invariant.0 in
    same_shelf _ _ _ c.seat.invariant.0 c.seat.inside.number _ _ c.seat.invariant.1
    (claim_seat c.seat.invariant.0 c.seat.inside.number c.seat.inside.seat.me c.compare_exchange-found.new.seat.me c.seat.invariant.1 c.self.inside.table.shared.table_id.slots (1 + c.len.result + c.self.inside.plan.places + c.args.segment) c.args.segment 0 c.compare_exchange-found.result (omega arith) c.compare_exchange-found.ensures.2)
    c.compare_exchange-found.ensures.0 (ap (λ s. s.shelf) c.seat.view_is)

pub returns-clause-claimed : goal.returns-clause-claimed
returns-clause-claimed g c = λ is.
    let slots = c.self.invariant.3 in let forks = c.len.ensures in let count = ap place_count c.self.invariant.0 in
    let e = seat_told _ _ _ _ _ c.seat.invariant.1 (ap (λ s. s.shelf) c.seat.view_is ∙ c.requires.seat) in
    let all = c.compare_exchange-found.ensures.2 c.seat.invariant.0 c.seat.invariant.1.about c.args.segment (omega arith) in
    let x = at_true _ _ _ is all in
    let v = ap (λ s. s.view) c.seat.view_is in
    let became = ap (λ w. w.seen) x.0.0 in
    (became ∙ ap (with_claim c.args.segment) v, subst (λ (u : _). times c.args.segment u.claims ≡ 0) v x.1, shown (λ p u. Makes p (λ n. Claim n c.args.segment) u c.compare_exchange-found.new.seat.me.0.seen) _ _ _ _ (ap (λ s. s.plan) e) v x.2)

pub returns-clause-mine : goal.returns-clause-mine
returns-clause-mine g c = λ is.
    let slots = c.self.invariant.3 in let forks = c.len.ensures in let count = ap place_count c.self.invariant.0 in
    let all = c.compare_exchange-found.ensures.2 c.seat.invariant.0 c.seat.invariant.1.about c.args.segment (omega arith) in
    let x = at_true _ _ _ is all in
    subst (λ (w : _). 0 < times c.args.segment w.seen.claims) (sym x.0.0) (claimed_end c.args.segment c.seat.inside.seat.me.0.seen.claims)

pub returns-clause-kept : goal.returns-clause-kept
returns-clause-kept g c = λ is.
    let slots = c.self.invariant.3 in let forks = c.len.ensures in let count = ap place_count c.self.invariant.0 in
    let all = c.compare_exchange-found.ensures.2 c.seat.invariant.0 c.seat.invariant.1.about c.args.segment (omega arith) in
    let x = at_false _ _ _ is all in
    let v = ap (λ s. s.view) c.seat.view_is in let w = c.compare_exchange-found.new.seat.me.0.seen in
    (subst (λ u. Same u w) v (sees_same _ _ _ _ w x.2), subst (λ u. Stays u w) v (sees_stays _ _ _ _ w x.2))

pub returns-clause-refused : goal.returns-clause-refused
returns-clause-refused g c = λ is.
    let slots = c.self.invariant.3 in let forks = c.len.ensures in let count = ap place_count c.self.invariant.0 in
    let e = seat_told _ _ _ _ _ c.seat.invariant.1 (ap (λ s. s.shelf) c.seat.view_is ∙ c.requires.seat) in
    let all = c.compare_exchange-found.ensures.2 c.seat.invariant.0 c.seat.invariant.1.about c.args.segment (omega arith) in
    let x = at_false _ _ _ is all in
    let v = ap (λ s. s.view) c.seat.view_is in
    (x.0, shown (λ p u. Sees p (claim_word c.args.segment) (claim_seen c.args.segment (Taken x.0)) u c.compare_exchange-found.new.seat.me.0.seen) _ _ _ _ (ap (λ s. s.plan) e) v x.2)
