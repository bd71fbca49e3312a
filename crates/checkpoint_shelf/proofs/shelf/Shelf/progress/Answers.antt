use Rattle.std.proofs.Common.{arith, ◌/◌, ◌%◌, ℕ, Bool, nat_eq, sym, ap, subst, ◌∙◌, Some}
use Rattle.shelf_core.specs.declared.words.Word.TheVariants.{Done as done_word}
use Rattle.shelf_core.specs.declared.words.Seen.TheVariants.{Done as done_seen}
use Rattle.checkpoint_shelf.specs.Holds.{IsSeat}
use Rattle.shelf_core.specs.Made.{Sees, Same, Stays}
use Rattle.checkpoint_shelf.proofs.Words.{reads}
use Rattle.shelf_core.proofs.Staying.{sees_same, sees_stays}
use Rattle.shelf_core.proofs.Facts.{sees_no_less, sees_few}
use Rattle.checkpoint_shelf.proofs.Calls.{one_about, becomes_loaded, shown, halves, seat_told, same_shelf}
use Rattle.checkpoint_shelf.proofs.shelf.Shelf.progress.Goals as goal

pub load-found-requires : goal.load-found-requires
load-found-requires g c =
    let e = seat_told _ _ _ _ _ c.seat.invariant.1 (ap (λ s. s.shelf) c.seat.view_is ∙ c.requires.seat) ∙ sym c.self.view_is in
    let k = one_about _ _ _ _ e in
    let seat = subst (λ a. IsSeat a c.seat.inside.number c.seat.inside.seat.me) k c.seat.invariant.1 in
    let words = c.self.invariant.2 in
    (ap (λ t. t.table) e, omega arith, reads _ _ _ c.self.inside.table.shared.key _ _ c.seat.inside.number _ seat)

pub overflow_cast-result : goal.overflow_cast-result
overflow_cast-result g c =
    let x = c.load-found.ensures.2 c.seat.invariant.0 c.seat.invariant.1.about in
    let h = halves x.0 x.1 c.load-found.result x.2 in let low = sees_few c.seat.invariant.0.plan x.0 x.1 _ _ x.4 in let few = c.seat.invariant.1.fits.plan.segments in let a = h.0 in omega arith

pub invariant_of-seat : goal.invariant_of-seat
invariant_of-seat g c =
    let x = c.load-found.ensures.2 c.seat.invariant.0 c.seat.invariant.1.about in
    (c.seat.invariant.0, becomes_loaded c.seat.invariant.0 c.seat.inside.number c.seat.inside.seat.me c.load-found.new.seat.me c.seat.invariant.1 (Some c.seat.invariant.0.plan) (done_seen x.0 x.1) x.3)

pub returns-clause-same : goal.returns-clause-same
returns-clause-same g c =
    let x = c.load-found.ensures.2 c.seat.invariant.0 c.seat.invariant.1.about in
    same_shelf _ _ _ c.seat.invariant.0 c.seat.inside.number _ _ c.seat.invariant.1
    (becomes_loaded c.seat.invariant.0 c.seat.inside.number c.seat.inside.seat.me c.load-found.new.seat.me c.seat.invariant.1 (Some c.seat.invariant.0.plan) (done_seen x.0 x.1) x.3)
    c.load-found.ensures.0 (ap (λ s. s.shelf) c.seat.view_is)

pub returns-clause-seen : goal.returns-clause-seen
returns-clause-seen g c = let x = c.load-found.ensures.2 c.seat.invariant.0 c.seat.invariant.1.about in
    let h = halves x.0 x.1 c.load-found.result x.2 in
    let e = seat_told _ _ _ _ _ c.seat.invariant.1 (ap (λ s. s.shelf) c.seat.view_is ∙ c.requires.seat) in
    shown (λ p u. Sees p done_word (done_seen (c.load-found.result / 2) (nat_eq (c.load-found.result % 2) 1)) u c.load-found.new.seat.me.0.seen) _ _ _ _ (ap (λ s. s.plan) e) (ap (λ s. s.view) c.seat.view_is)
    (subst (λ (z : ℕ × Bool). Sees c.seat.invariant.0.plan done_word (done_seen z.0 z.1) c.seat.inside.seat.me.0.seen c.load-found.new.seat.me.0.seen) (λ j. (sym h.0 j, sym h.1 j)) x.4)

pub returns-clause-kept : goal.returns-clause-kept
returns-clause-kept g c = let x = c.load-found.ensures.2 c.seat.invariant.0 c.seat.invariant.1.about in
    let v = ap (λ s. s.view) c.seat.view_is in let w = c.load-found.new.seat.me.0.seen in
    (subst (λ u. Same u w) v (sees_same _ _ _ _ w x.4), subst (λ u. Stays u w) v (sees_stays _ _ _ _ w x.4))

pub returns-clause-no_less : goal.returns-clause-no_less
returns-clause-no_less g c = let x = c.load-found.ensures.2 c.seat.invariant.0 c.seat.invariant.1.about in
    let h = halves x.0 x.1 c.load-found.result x.2 in let s = sees_no_less _ _ _ _ _ x.4 in let a = h.0 in let b = s.0 in let v = ap (λ s. s.view.done_seen) c.seat.view_is in omega arith

pub returns-clause-own : goal.returns-clause-own
returns-clause-own g c = let x = c.load-found.ensures.2 c.seat.invariant.0 c.seat.invariant.1.about in
    let h = halves x.0 x.1 c.load-found.result x.2 in let s = sees_no_less _ _ _ _ _ x.4 in let a = h.0 in let b = s.1 in let v = ap (λ s. s.view.counts) c.seat.view_is in omega arith

pub returns-clause-stays : goal.returns-clause-stays
returns-clause-stays g c = λ f. let x = c.load-found.ensures.2 c.seat.invariant.0 c.seat.invariant.1.about in
    let h = halves x.0 x.1 c.load-found.result x.2 in let s = sees_no_less _ _ _ _ _ x.4 in h.1 ∙ s.2 (ap (λ s. s.view.stopped) c.seat.view_is ∙ f)
