use Rattle.std.proofs.Common.{◌≡◌, true, sym, ap, subst, ◌∙◌}
use Rattle.shelf_core.specs.Plan.{is_in}
use Rattle.checkpoint_shelf.specs.Holds.{IsSeat}
use Rattle.shelf_core.specs.Calls.{Borrowed, Missed, LentElsewhere, LentKnown}
use Rattle.std.specs.Arc.{arc_value}
use Rattle.checkpoint_shelf.proofs.Calls.{one_about, seat_told, same_shelf}
use Rattle.shelf_core.proofs.Facts.{missed_elsewhere, missed_known}
use Rattle.checkpoint_shelf.proofs.Facts.{not_yet_says}
use Rattle.shelf_core.specs.Made.{Stays}
use Rattle.shelf_core.proofs.Facts.{missed_same}
use Rattle.shelf_core.proofs.Staying.{missed_stays, borrowed_stays, borrowed_found}
use Rattle.checkpoint_shelf.proofs.Facts.{all_say, here_says}
use Rattle.checkpoint_shelf.proofs.shelf.Shelf.find.Goals as goal

pub borrow-requires-clause-seat : goal.borrow-requires-clause-seat
borrow-requires-clause-seat g c =
    let e = seat_told _ _ _ _ _ c.seat.invariant.1 (ap (λ s. s.shelf) c.seat.view_is ∙ c.requires.seat) ∙ sym c.self.view_is in
    subst (λ a. IsSeat a c.seat.inside.number c.seat.inside.seat.me) (one_about _ _ _ _ e) c.seat.invariant.1

pub invariant_of-seat : goal.invariant_of-seat
invariant_of-seat g c = (c.self.inside.table.shared.key, c.borrow.ensures.seat)

pub returns-clause-same : goal.returns-clause-same
returns-clause-same g c =
    let e = seat_told _ _ _ _ _ c.seat.invariant.1 (ap (λ s. s.shelf) c.seat.view_is ∙ c.requires.seat) ∙ sym c.self.view_is in
    let k = one_about _ _ _ _ e in
    same_shelf _ _ _ c.self.inside.table.shared.key c.seat.inside.number _ _ (subst (λ a. IsSeat a c.seat.inside.number c.seat.inside.seat.me) k c.seat.invariant.1) c.borrow.ensures.seat c.borrow.ensures.table (ap (λ s. s.shelf) c.seat.view_is)

pub returns-clause-elsewhere : goal.returns-clause-elsewhere
returns-clause-elsewhere g c = let v = ap (λ s. s.view) c.seat.view_is in let k = c.self.inside.table.shared.key in let u = c.seat.inside.seat.me.0.seen in let w = c.borrow.new.seat.me.0.seen in let key = c.args.key in
    not_yet_says (λ a. (g.C.Shelved.key_of (arc_value a) ≡ key) × (g.C.Shelved.course_of (arc_value a) ≡ k.course.value) × Borrowed k.plan key u w) (λ word. Missed k.plan key word u w)
    (λ word. LentElsewhere c.args.seat.now.view word) c.borrow.result (λ word h. subst (λ u. LentElsewhere u word) v (missed_elsewhere _ _ word _ _ h c.seat.invariant.1.idle)) c.borrow.ensures.found

pub returns-clause-known : goal.returns-clause-known
returns-clause-known g c = λ known. let v = ap (λ s. s.view) c.seat.view_is in let k = c.self.inside.table.shared.key in let u = c.seat.inside.seat.me.0.seen in let w = c.borrow.new.seat.me.0.seen in let key = c.args.key in
    not_yet_says (λ a. (g.C.Shelved.key_of (arc_value a) ≡ key) × (g.C.Shelved.course_of (arc_value a) ≡ k.course.value) × Borrowed k.plan key u w) (λ word. Missed k.plan key word u w)
    (λ word. LentKnown key c.args.seat.now.view word) c.borrow.result
    (λ word h. subst (λ u. LentKnown key u word) v (missed_known _ key word _ _ h c.seat.invariant.1.idle (ap (λ u. is_in key u.known) v ∙ known))) c.borrow.ensures.found

pub returns-clause-stays : goal.returns-clause-stays
returns-clause-stays g c = let v = ap (λ s. s.view) c.seat.view_is in let k = c.self.inside.table.shared.key in let u = c.seat.inside.seat.me.0.seen in let w = c.borrow.new.seat.me.0.seen in let key = c.args.key in
    subst (λ u. Stays u w) v (all_say (λ a. (g.C.Shelved.key_of (arc_value a) ≡ key) × (g.C.Shelved.course_of (arc_value a) ≡ k.course.value) × Borrowed k.plan key u w) (λ word. Missed k.plan key word u w) (Borrowed k.plan key u w)
    c.borrow.result (λ a h. borrowed_stays _ _ u w h.2) (λ word h. missed_stays _ _ word u w h) (λ h. borrowed_stays _ _ u w h) c.borrow.ensures.found c.borrow.ensures.refused)

pub returns-clause-turns : goal.returns-clause-turns
returns-clause-turns g c = let v = ap (λ s. s.view.turns) c.seat.view_is in let k = c.self.inside.table.shared.key in let u = c.seat.inside.seat.me.0.seen in let w = c.borrow.new.seat.me.0.seen in let key = c.args.key in
    all_say {P = w.turns ≡ u.turns} (λ a. (g.C.Shelved.key_of (arc_value a) ≡ key) × (g.C.Shelved.course_of (arc_value a) ≡ k.course.value) × Borrowed k.plan key u w) (λ word. Missed k.plan key word u w) (Borrowed k.plan key u w)
    c.borrow.result (λ a h. (borrowed_found _ _ u w h.2).0) (λ word h. (missed_same _ _ word u w h).turns) (λ h. (borrowed_found _ _ u w h).0) c.borrow.ensures.found c.borrow.ensures.refused ∙ v

pub returns-clause-got : goal.returns-clause-got
returns-clause-got g c = let k = c.self.inside.table.shared.key in let u = c.seat.inside.seat.me.0.seen in let w = c.borrow.new.seat.me.0.seen in let key = c.args.key in
    here_says (λ a. (g.C.Shelved.key_of (arc_value a) ≡ key) × (g.C.Shelved.course_of (arc_value a) ≡ k.course.value) × Borrowed k.plan key u w) (λ a. is_in key w.found ≡ true) (λ word. Missed k.plan key word u w)
    c.borrow.result (λ a h. (borrowed_found _ _ u w h.2).2) c.borrow.ensures.found
