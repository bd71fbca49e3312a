use Rattle.std.proofs.Common.{arith, ◌∷◌, [], length, map, ap, sym, ◌∙◌, subst, length-append}
use Rattle.checkpoint_shelf.specs.Holds.{IsSeat}
use Rattle.checkpoint_shelf.specs.Told.{told_of}
use Rattle.checkpoint_shelf.specs.Seats.{gathered}
use Rattle.checkpoint_shelf.proofs.Calls.{one_about, seat_told}
use Rattle.checkpoint_shelf.proofs.Closes.{later_last, later_front, gathered_last, head_of}
use Rattle.checkpoint_shelf.proofs.close.gather.Goals as goal

pub meet-requires-clause-others : goal.meet-requires-clause-others
meet-requires-clause-others g c = let r = later_last _ c.loop-seat.others.items c.pop.new.self.items c.in-Some.seat c.in-Some.ensures.items c.loop-seat.invariant.others in
    ap (λ t. t.table) (seat_told _ _ _ _ _ c.seat.invariant.1 (ap (λ s. s.shelf) c.seat.view_is ∙ r.0))

pub meet-requires-clause-other : goal.meet-requires-clause-other
meet-requires-clause-other g c = let r = later_last _ c.loop-seat.others.items c.pop.new.self.items c.in-Some.seat c.in-Some.ensures.items c.loop-seat.invariant.others in
    subst (λ a. IsSeat a c.seat.inside.number c.seat.inside.seat.me) (one_about c.seat.inside.seat.table_id c.args.table.now.table_id c.seat.invariant.0 c.args.table.now.key (seat_told _ _ _ _ _ c.seat.invariant.1 (ap (λ s. s.shelf) c.seat.view_is ∙ r.0))) c.seat.invariant.1

pub meet-requires-clause-later : goal.meet-requires-clause-later
meet-requires-clause-later g c = let r = later_last _ c.loop-seat.others.items c.pop.new.self.items c.in-Some.seat c.in-Some.ensures.items c.loop-seat.invariant.others in
    let n = ap head_of (sym c.seat.invariant.1.numbers.1 ∙ ap (λ s. s.view.numbers) c.seat.view_is ∙ r.1.1) in omega arith

pub meet-requires-clause-bare : goal.meet-requires-clause-bare
meet-requires-clause-bare g c = let r = later_last _ c.loop-seat.others.items c.pop.new.self.items c.in-Some.seat c.in-Some.ensures.items c.loop-seat.invariant.others in
    ap (λ s. s.view.turns) c.seat.view_is ∙ r.2

pub loop-seat-preserved : goal.loop-seat-preserved
loop-seat-preserved g c = let inv = c.loop-seat.invariant in let m = c.meet.ensures in let is = c.in-Some.ensures.items in
    let v = ap (λ s. s.view) c.seat.view_is in
    let long = ap length is in
    let more = ap (λ w. w.0.met) m.first in let old = inv.met in record {
      table = m.table ∙ inv.table;
      leads = ap (λ w. w.0.leads) m.first ∙ inv.leads;
      made = ap (λ w. w.0.made) m.first ∙ inv.made;
      met = omega (arith, length-append c.pop.new.self.items (c.in-Some.seat ∷ []));
      seen = ap (λ u. gathered u (map (λ s. s.view) c.pop.new.self.items)) (ap (λ w. w.0.seen) m.first ∙ ap (λ u. Rattle.shelf_core.specs.After.joined_with u c.loop-seat.first.me.0.seen) v)
          ∙ sym (gathered_last (told_of c.args.table.now.table_id c.args.table.now.key) c.loop-seat.others.items c.pop.new.self.items c.in-Some.seat is inv.others c.loop-seat.first.me.0.seen) ∙ inv.seen;
      others = later_front (told_of c.args.table.now.table_id c.args.table.now.key) c.loop-seat.others.items c.pop.new.self.items c.in-Some.seat is inv.others;
    }
