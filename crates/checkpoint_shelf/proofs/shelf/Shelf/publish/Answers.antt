use Rattle.std.proofs.Common.{◌≡◌, Some, sym, ap, subst, ◌∙◌}
use Rattle.shelf_core.specs.Plan.{place_of, is_in, is_sole}
use Rattle.shelf_core.specs.Views.{has_turn, other_turns}
use Rattle.shelf_core.specs.Made.{Stays}
use Rattle.shelf_core.specs.Calls.{Published}
use Rattle.checkpoint_shelf.specs.Holds.{IsSeat}
use Rattle.checkpoint_shelf.proofs.Calls.{one_about, seat_told, same_shelf}
use Rattle.checkpoint_shelf.proofs.Hands.{turn_has_place}
use Rattle.shelf_core.proofs.Staying.{published_stays, published_turns, published_known}
use Rattle.checkpoint_shelf.proofs.shelf.Shelf.publish.Goals as goal

pub unreachable-requires : goal.unreachable-requires
unreachable-requires g c =
    let has = ap (λ s. has_turn c.turn.inside.key s.view.turns) c.seat.view_is ∙ ap (λ t. has_turn t c.args.seat.now.view.turns) c.turn.view_is ∙ c.requires.turn in
    let r = turn_has_place _ _ _ c.seat.invariant.1 c.turn.inside.key has in
    let e = ap (λ s. s.plan) (seat_told _ _ _ _ _ c.seat.invariant.1 (ap (λ s. s.shelf) c.seat.view_is ∙ c.requires.seat)) in
    c.in_default.not-Some r.0 (c.place_of.ensures ∙ ap (λ p. place_of p c.turn.inside.key) (sym e) ∙ r.1)

pub hand_in-requires-clause-seat : goal.hand_in-requires-clause-seat
hand_in-requires-clause-seat g c =
    let e = seat_told _ _ _ _ _ c.seat.invariant.1 (ap (λ s. s.shelf) c.seat.view_is ∙ c.requires.seat) ∙ sym c.self.view_is in
    subst (λ a. IsSeat a c.seat.inside.number c.seat.inside.seat.me) (one_about _ _ _ _ e) c.seat.invariant.1

pub invariant_of-seat : goal.invariant_of-seat
invariant_of-seat g c = (c.self.inside.table.shared.key, c.hand_in.ensures.seat)

pub returns-clause-same : goal.returns-clause-same
returns-clause-same g c =
    let e = seat_told _ _ _ _ _ c.seat.invariant.1 (ap (λ s. s.shelf) c.seat.view_is ∙ c.requires.seat) ∙ sym c.self.view_is in
    let k = one_about _ _ _ _ e in
    same_shelf _ _ _ c.self.inside.table.shared.key c.seat.inside.number _ _ (subst (λ a. IsSeat a c.seat.inside.number c.seat.inside.seat.me) k c.seat.invariant.1) c.hand_in.ensures.seat c.hand_in.ensures.table (ap (λ s. s.shelf) c.seat.view_is)

pub returns-clause-stays : goal.returns-clause-stays
returns-clause-stays g c =
    let k = c.self.inside.table.shared.key in let key = c.turn.inside.key in let u = c.seat.inside.seat.me.0.seen in let w = c.hand_in.new.seat.me.0.seen in
    let st = c.hand_in.ensures.steps in
    let at : place_of k.plan key ≡ Some c.in-Some.place = ap (λ s. place_of s.plan key) c.self.view_is ∙ sym c.place_of.ensures ∙ c.in-Some.is in
    let made : Published k.plan key u w = (c.in-Some.place, st.0, st.1, at, st.2, st.4, st.3) in
    subst (λ u. Stays u w) (ap (λ s. s.view) c.seat.view_is) (published_stays k.plan key u w made)

pub returns-clause-spent : goal.returns-clause-spent
returns-clause-spent g c =
    let k = c.self.inside.table.shared.key in let key = c.turn.inside.key in let u = c.seat.inside.seat.me.0.seen in let w = c.hand_in.new.seat.me.0.seen in
    let st = c.hand_in.ensures.steps in
    let at : place_of k.plan key ≡ Some c.in-Some.place = ap (λ s. place_of s.plan key) c.self.view_is ∙ sym c.place_of.ensures ∙ c.in-Some.is in
    let made : Published k.plan key u w = (c.in-Some.place, st.0, st.1, at, st.2, st.4, st.3) in
    published_turns k.plan key u w made ∙ ap (other_turns key) (ap (λ s. s.view.turns) c.seat.view_is) ∙ ap (λ t. other_turns t c.args.seat.now.view.turns) c.turn.view_is

pub returns-clause-known : goal.returns-clause-known
returns-clause-known g c = λ sole.
    let k = c.self.inside.table.shared.key in let key = c.turn.inside.key in let u = c.seat.inside.seat.me.0.seen in let w = c.hand_in.new.seat.me.0.seen in
    let st = c.hand_in.ensures.steps in
    let at : place_of k.plan key ≡ Some c.in-Some.place = ap (λ s. place_of s.plan key) c.self.view_is ∙ sym c.place_of.ensures ∙ c.in-Some.is in
    let made : Published k.plan key u w = (c.in-Some.place, st.0, st.1, at, st.2, st.4, st.3) in
    ap (λ t. is_in t w.known) (sym c.turn.view_is) ∙ published_known k.plan key u w made (ap (λ s. is_sole s.plan key) c.self.view_is ∙ ap (λ t. is_sole c.args.self.now.plan t) c.turn.view_is ∙ sole)
