use Rattle.std.proofs.Common.{arith, ◌≡◌, ◌+◌, [], length, sym, ap, ◌∙◌, subst, length-append}
use Rattle.shelf_core.specs.Views.{new_view}
use Rattle.shelf_core.proofs.Lists.{not_some}
use Rattle.checkpoint_shelf.specs.Holds.{IsSeat, led}
use Rattle.checkpoint_shelf.specs.Seats.{NewFrom}
use Rattle.checkpoint_shelf.specs.Told.{told_of, shelf_of}
use Rattle.checkpoint_shelf.proofs.Opens.{led_seat, follower_seat, new_end, new_first}
use Rattle.checkpoint_shelf.proofs.open.seated.Goals as goal

pub loop-number-init : goal.loop-number-init
loop-number-init g c = record {
  table = c.requires.table;
  first = c.requires.first;
  len = (let n = ap length c.new-all.ensures.items in omega arith);
  each = subst (NewFrom (told_of c.args.table.now.table_id c.args.table.now.key) 1) (sym c.new-all.ensures.items) (λ i s x. absurd (not_some s x));
}

pub cut-seat-requires-clause-table : goal.cut-seat-requires-clause-table
cut-seat-requires-clause-table g c = c.loop-number.invariant.table

pub cut-seat-requires-clause-first : goal.cut-seat-requires-clause-first
cut-seat-requires-clause-first g c = c.loop-number.invariant.first

pub loop-number-preserved : goal.loop-number-preserved
loop-number-preserved g c = let inv = c.loop-number.invariant in let cut = c.cut-seat.ensures in let e = c.in-Ok.ensures in
    let shelf = told_of c.args.table.now.table_id c.args.table.now.key in
    let t = cut.new.0 ∙ inv.table in
    let n : c.loop-number.number ≡ 1 + length c.loop-number.all.items = (let l = inv.len in omega arith) in record {
      table = cut.table ∙ inv.table;
      first = cut.first;
      len = (let l = inv.len in let m = ap length e in omega (arith, m, length-append c.loop-number.all.items));
      each = subst (NewFrom shelf 1) (sym e) (new_end shelf 1 c.loop-number.all.items _ inv.each (λ j. shelf_of (t j) ((cut.new.1 j).0.about)) (ap (λ m. m.0.seen) cut.new.1 ∙ ap new_view n));
    }

pub invariant_of-keep : goal.invariant_of-keep
invariant_of-keep g c = let inv = c.loop-number.invariant in let k = c.args.table.now.key in
    let low = c.loop-number-test.true in let x = c.requires.seats in let l = inv.len in
    (k, subst (IsSeat k c.loop-number.number) (sym c.cut-seat.ensures.new.1) (follower_seat _ k c.loop-number.number c.requires.fits (omega arith) (omega arith)))

pub invariant_of-seat : goal.invariant_of-seat
invariant_of-seat g c = let inv = c.loop-number.invariant in let k = c.args.table.now.key in let x = c.requires.seats in let some = c.requires.fits.seats.0 in
    let most = c.loop-number.auto.number-end (omega arith) in let least = c.loop-number-test.false in
    let n : c.loop-number.number ≡ k.seats = omega arith in
    let me : c.loop-number.first.me ≡ (led k k.seats, []) = inv.first ∙ ap (λ m. (led k m, [])) n in
    (k, subst (IsSeat k 0) (sym me) (led_seat _ k c.requires.fits))

pub returns-clause-count : goal.returns-clause-count
returns-clause-count g c = let inv = c.loop-number.invariant in let x = c.requires.seats in let some = c.requires.fits.seats.0 in
    let most = c.loop-number.auto.number-end (omega arith) in let least = c.loop-number-test.false in let l = inv.len in
    ap length c.in-Ok-keep_first.ensures ∙ omega arith

pub returns-clause-each : goal.returns-clause-each
returns-clause-each g c = let inv = c.loop-number.invariant in let shelf = told_of c.args.table.now.table_id c.args.table.now.key in let t = inv.table in
    subst (NewFrom shelf 0) (sym c.in-Ok-keep_first.ensures)
    (new_first shelf c.loop-number.all.items _ inv.each (λ j. shelf_of (t j) ((inv.first j).0.about)) (ap (λ m. m.0.seen) inv.first))
