use Rattle.std.proofs.Common.{arith, sym, ap, subst, refl, ◌∙◌}
use Rattle.shelf_core.specs.After.{having_stopped}
use Rattle.shelf_core.specs.declared.event.Event.TheVariants.{Stop}
use Rattle.checkpoint_shelf.specs.Holds.{IsSeat}
use Rattle.shelf_core.specs.Made.{Makes}
use Rattle.checkpoint_shelf.proofs.Words.{stops}
use Rattle.checkpoint_shelf.proofs.Calls.{one_about, becomes, shown, seat_told, same_shelf}
use Rattle.checkpoint_shelf.proofs.shelf.Shelf.stop.Goals as goal

pub fetch_or-requires : goal.fetch_or-requires
fetch_or-requires g c =
    let e = seat_told _ _ _ _ _ c.seat.invariant.1 (ap (λ s. s.shelf) c.seat.view_is ∙ c.requires.seat) ∙ sym c.self.view_is in
    let k = one_about _ _ _ _ e in
    let seat = subst (λ a. IsSeat a c.seat.inside.number c.seat.inside.seat.me) k c.seat.invariant.1 in
    let words = c.self.invariant.2 in
    (ap (λ t. t.table) e, omega arith, stops _ _ _ c.self.inside.table.shared.key _ _ c.seat.inside.number _ seat)

pub invariant_of-seat : goal.invariant_of-seat
invariant_of-seat g c =
    let x = c.fetch_or.ensures.2 c.seat.invariant.0 c.seat.invariant.1.about in
    (c.seat.invariant.0, becomes c.seat.invariant.0 c.seat.inside.number c.seat.inside.seat.me c.fetch_or.new.seat.me c.seat.invariant.1 (having_stopped c.seat.inside.seat.me.0.seen) refl refl refl refl x.0)

pub returns-clause-same : goal.returns-clause-same
returns-clause-same g c =
    let x = c.fetch_or.ensures.2 c.seat.invariant.0 c.seat.invariant.1.about in
    same_shelf _ _ _ c.seat.invariant.0 c.seat.inside.number _ _ c.seat.invariant.1
    (becomes c.seat.invariant.0 c.seat.inside.number c.seat.inside.seat.me c.fetch_or.new.seat.me c.seat.invariant.1 (having_stopped c.seat.inside.seat.me.0.seen) refl refl refl refl x.0)
    c.fetch_or.ensures.0 (ap (λ s. s.shelf) c.seat.view_is)

pub returns-clause-stopped : goal.returns-clause-stopped
returns-clause-stopped g c = let x = c.fetch_or.ensures.2 c.seat.invariant.0 c.seat.invariant.1.about in
    ap (λ w. w.seen) x.0.0 ∙ ap having_stopped (ap (λ s. s.view) c.seat.view_is)

pub returns-clause-step : goal.returns-clause-step
returns-clause-step g c = let x = c.fetch_or.ensures.2 c.seat.invariant.0 c.seat.invariant.1.about in
    let e = seat_told _ _ _ _ _ c.seat.invariant.1 (ap (λ s. s.shelf) c.seat.view_is ∙ c.requires.seat) in
    shown (λ p u. Makes p Stop u c.fetch_or.new.seat.me.0.seen) _ _ _ _ (ap (λ s. s.plan) e) (ap (λ s. s.view) c.seat.view_is) x.1
