use Rattle.std.proofs.Common.{arith, ◌≡◌, ◌+◌, ◌==◌, ◌∷◌, map, ap, sym, ◌∙◌, subst, Some, slice_get, replicate, ◌-◌}
use Rattle.shelf_core.specs.Views.{spent_view}
use Rattle.shelf_core.specs.Settled.{IsSettled}
use Rattle.checkpoint_shelf.specs.Seats.{gathered, all_in}
use Rattle.checkpoint_shelf.proofs.Closes.{first_split, head_of, gathered_same, back_settled}
use Rattle.checkpoint_shelf.proofs.Calls.{seat_told}
use Rattle.checkpoint_shelf.proofs.shelf.Shelf.close.Goals as goal

pub gather-requires-clause-table : goal.gather-requires-clause-table
gather-requires-clause-table g c = let some = c.self.invariant.1.seats.0 in let n = ap (λ s. s.seats) c.self.view_is in let l = c.requires.all in
    let is = first_split c.args.seats.items c.remove-first.new.self.items c.remove-first.result (omega arith) c.remove-first.ensures.value c.remove-first.ensures.items in
    let r = c.requires.each 0 c.remove-first.result (ap (λ m. slice_get m 0) is) in
    ap (λ s. s.table) (seat_told _ _ _ _ _ c.first.invariant.1 (ap (λ s. s.shelf) c.first.view_is ∙ r.0) ∙ sym c.self.view_is)

pub gather-requires-clause-leads : goal.gather-requires-clause-leads
gather-requires-clause-leads g c = let some = c.self.invariant.1.seats.0 in let n = ap (λ s. s.seats) c.self.view_is in let l = c.requires.all in
    let is = first_split c.args.seats.items c.remove-first.new.self.items c.remove-first.result (omega arith) c.remove-first.ensures.value c.remove-first.ensures.items in
    let r = c.requires.each 0 c.remove-first.result (ap (λ m. slice_get m 0) is) in
    let zero = ap head_of (sym c.first.invariant.1.numbers.1 ∙ ap (λ s. s.view.numbers) c.first.view_is ∙ r.1.1) in
    c.first.invariant.1.leads ∙ ap (λ k. k == 0) zero

pub gather-requires-clause-others : goal.gather-requires-clause-others
gather-requires-clause-others g c = λ i seat e. let some = c.self.invariant.1.seats.0 in let n = ap (λ s. s.seats) c.self.view_is in let l = c.requires.all in
    let is = first_split c.args.seats.items c.remove-first.new.self.items c.remove-first.result (omega arith) c.remove-first.ensures.value c.remove-first.ensures.items in
    let next : 1 + i ≡ Rattle.std.proofs.Common.suc i = omega arith in
    let r = c.requires.each (1 + i) seat (ap (λ m. slice_get m (1 + i)) is ∙ ap (λ k. slice_get (c.remove-first.result ∷ c.remove-first.new.self.items) k) next ∙ e) in
    (r.0 ∙ ap Some (sym c.self.view_is), r.1, r.2)

pub seal-requires-clause-table : goal.seal-requires-clause-table
seal-requires-clause-table g c = let some = c.self.invariant.1.seats.0 in let n = ap (λ s. s.seats) c.self.view_is in let l = c.requires.all in
    let is = first_split c.args.seats.items c.remove-first.new.self.items c.remove-first.result (omega arith) c.remove-first.ensures.value c.remove-first.ensures.items in
    let r = c.requires.each 0 c.remove-first.result (ap (λ m. slice_get m 0) is) in
    c.gather.ensures.table ∙ ap (λ s. s.table) (seat_told _ _ _ _ _ c.first.invariant.1 (ap (λ s. s.shelf) c.first.view_is ∙ r.0) ∙ sym c.self.view_is)

pub seal-requires-clause-made : goal.seal-requires-clause-made
seal-requires-clause-made g c = let some = c.self.invariant.1.seats.0 in let n = ap (λ s. s.seats) c.self.view_is in let l = c.requires.all in
    let is = first_split c.args.seats.items c.remove-first.new.self.items c.remove-first.result (omega arith) c.remove-first.ensures.value c.remove-first.ensures.items in
    let r = c.requires.each 0 c.remove-first.result (ap (λ m. slice_get m 0) is) in
    let zero = ap head_of (sym c.first.invariant.1.numbers.1 ∙ ap (λ s. s.view.numbers) c.first.view_is ∙ r.1.1) in
    c.gather.ensures.made ∙ c.first.invariant.1.made (c.first.invariant.1.leads ∙ ap (λ k. k == 0) zero) ∙ ap (λ s. s.seats) (seat_told _ _ _ _ _ c.first.invariant.1 (ap (λ s. s.shelf) c.first.view_is ∙ r.0) ∙ sym c.self.view_is)

pub returns-clause-settled : goal.returns-clause-settled
returns-clause-settled g c = let some = c.self.invariant.1.seats.0 in let n = ap (λ s. s.seats) c.self.view_is in let l = c.requires.all in
    let is = first_split c.args.seats.items c.remove-first.new.self.items c.remove-first.result (omega arith) c.remove-first.ensures.value c.remove-first.ensures.items in
    let r = c.requires.each 0 c.remove-first.result (ap (λ m. slice_get m 0) is) in
    let seat = c.first.invariant.1 in let v = ap (λ s. s.view) c.first.view_is in
    let others = map (λ s. s.view) c.remove-first.new.self.items in
    let all : gathered c.first.inside.seat.me.0.seen others ≡ all_in (map (λ s. s.view) c.args.seats.items) = ap (λ u. gathered u others) v ∙ ap (λ m. all_in (map (λ s. s.view) m)) (sym is) in
    let views = c.seal.ensures.views ∙ ap (λ u. u ∷ replicate (c.self.inside.table.shared.key.seats - 1) spent_view) c.gather.ensures.seen in
    let same = gathered_same c.first.inside.seat.me.0.seen others in
    subst (λ u. IsSettled c.seal.result.system u) all
    (back_settled c.seal.result.system (gathered c.first.inside.seat.me.0.seen others) (c.self.inside.table.shared.key.seats - 1) c.seal.ensures.orderly views (same.0 ∙ seat.live) (same.1 ∙ ap (λ u. u.turns) v ∙ r.2) (same.2 ∙ seat.idle))
