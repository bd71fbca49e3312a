use Rattle.std.proofs.Common.{◌≡◌, length, ◌∙◌, ap, sym, arith}
use Rattle.std.proofs.Math.ListN.{length-set}
use Rattle.std.specs.Prelude.{slice_set}
use Rattle.shelf_core.specs.Views.{changed_at, spent_view}
use Rattle.shelf_core.specs.After.{joined_with, after_join}
use Rattle.shelf_core.proofs.Apply.{replaced, seat_low, join_seats, counts_low, seat_there, other_there}
use Rattle.shelf_core.proofs.system.System.join.Goals as goal

pub view-view-requires : goal.view-view-requires
view-view-requires c = seat_there c.args.self.now c.args.n _ c.requires.possible

pub view-other-requires : goal.view-other-requires
view-other-requires c = other_there c.args.self.now c.args.n c.args.m c.requires.possible

pub prove-unreachable-requires : goal.prove-unreachable-requires
prove-unreachable-requires c =
    let two = join_seats c.args.self.now c.args.n c.args.m _ _ c.view-view.ensures c.view-other.ensures c.requires.possible in
    let low = counts_low c.args.self.now c.args.n c.args.m _ _ c.requires.orderly two.0 c.view-view.ensures c.view-other.ensures in omega (arith, c.if-prove.true)

pub prove-unreachable-requires-2 : goal.prove-unreachable-requires-2
prove-unreachable-requires-2 c =
    let two = join_seats c.args.self.now c.args.n c.args.m _ _ c.view-view.ensures c.view-other.ensures c.requires.possible in
    let low = counts_low c.args.self.now c.args.n c.args.m _ _ c.requires.orderly two.0 c.view-view.ensures c.view-other.ensures in omega (arith, c.if-prove-2.true)

pub set-requires : goal.set-requires
set-requires c = seat_low c.args.self.now _ _ c.view-view.ensures

pub set-requires-2 : goal.set-requires-2
set-requires-2 c =
    let low = seat_low c.args.self.now _ _ c.view-other.ensures in
    let long : length c.set.new.self ≡ length c.args.self.now.views = ap length c.set.ensures ∙ length-set _ _ _ in omega arith

pub returns-clause-after : goal.returns-clause-after
returns-clause-after c =
    let views : c.set.new.self ≡ changed_at (joined_with c.view-other.result.now) c.args.self.now.views c.args.n = replaced _ _ _ _ _ _ c.view-view.ensures c.in-Ok.ensures c.set.ensures in
    let spent = c.set-2.ensures ∙ ap (slice_set c.set.new.self c.args.m) c.spent.ensures ∙ ap (λ l. slice_set l c.args.m spent_view) views in
    let two = join_seats c.args.self.now c.args.n c.args.m _ _ c.view-view.ensures c.view-other.ensures c.requires.possible in
    ap (λ l. record c.args.self.now { views = l }) spent ∙ ap (after_join c.args.self.now c.args.n c.args.m) (sym two.1)
