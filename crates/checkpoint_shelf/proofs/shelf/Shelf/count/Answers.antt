use Rattle.std.proofs.Common.{arith, sym, ap, subst, refl, length, ◌<◌, ◌∙◌}
use Rattle.shelf_core.specs.After.{with_count}
use Rattle.shelf_core.specs.declared.event.Event.TheVariants.{Count}
use Rattle.checkpoint_shelf.specs.Holds.{IsSeat}
use Rattle.shelf_core.specs.Made.{Makes}
use Rattle.checkpoint_shelf.proofs.Words.{counts}
use Rattle.checkpoint_shelf.proofs.Calls.{one_about, becomes, shown, seat_told, same_shelf}
use Rattle.checkpoint_shelf.proofs.shelf.Shelf.count.Goals as goal

pub fetch_add-requires : goal.fetch_add-requires
fetch_add-requires g c =
    let e = seat_told _ _ _ _ _ c.seat.invariant.1 (ap (λ s. s.shelf) c.seat.view_is ∙ c.requires.seat) ∙ sym c.self.view_is in
    let k = one_about _ _ _ _ e in
    let seat = subst (λ a. IsSeat a c.seat.inside.number c.seat.inside.seat.me) k c.seat.invariant.1 in
    let words = c.self.invariant.2 in
    (ap (λ t. t.table) e, omega arith, counts _ _ _ c.self.inside.table.shared.key _ _ c.seat.inside.number _ seat (subst (λ v. v.counts < length v.claims) (ap (λ s. s.view) (sym c.seat.view_is)) c.requires.more))

pub invariant_of-seat : goal.invariant_of-seat
invariant_of-seat g c =
    let x = c.fetch_add.ensures.2 c.seat.invariant.0 c.seat.invariant.1.about in
    (c.seat.invariant.0, becomes c.seat.invariant.0 c.seat.inside.number c.seat.inside.seat.me c.fetch_add.new.seat.me c.seat.invariant.1 (with_count c.seat.inside.seat.me.0.seen) refl refl refl refl x.0)

pub returns-clause-same : goal.returns-clause-same
returns-clause-same g c =
    let x = c.fetch_add.ensures.2 c.seat.invariant.0 c.seat.invariant.1.about in
    same_shelf _ _ _ c.seat.invariant.0 c.seat.inside.number _ _ c.seat.invariant.1
    (becomes c.seat.invariant.0 c.seat.inside.number c.seat.inside.seat.me c.fetch_add.new.seat.me c.seat.invariant.1 (with_count c.seat.inside.seat.me.0.seen) refl refl refl refl x.0)
    c.fetch_add.ensures.0 (ap (λ s. s.shelf) c.seat.view_is)

pub returns-clause-counted : goal.returns-clause-counted
returns-clause-counted g c = let x = c.fetch_add.ensures.2 c.seat.invariant.0 c.seat.invariant.1.about in
    ap (λ w. w.seen) x.0.0 ∙ ap with_count (ap (λ s. s.view) c.seat.view_is)

pub returns-clause-step : goal.returns-clause-step
returns-clause-step g c = let x = c.fetch_add.ensures.2 c.seat.invariant.0 c.seat.invariant.1.about in
    let e = seat_told _ _ _ _ _ c.seat.invariant.1 (ap (λ s. s.shelf) c.seat.view_is ∙ c.requires.seat) in
    shown (λ p u. Makes p Count u c.fetch_add.new.seat.me.0.seen) _ _ _ _ (ap (λ s. s.plan) e) (ap (λ s. s.view) c.seat.view_is) x.1
