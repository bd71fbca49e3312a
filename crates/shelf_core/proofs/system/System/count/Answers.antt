use Rattle.std.proofs.Common.{◌≡◌, refl, arith}
use Rattle.shelf_core.specs.Views.{changed_at}
use Rattle.shelf_core.specs.After.{with_count}
use Rattle.shelf_core.proofs.Apply.{replaced, count_words, seat_low, seat_there}
use Rattle.shelf_core.proofs.system.System.count.Goals as goal

pub view-view-requires : goal.view-view-requires
view-view-requires c = seat_there c.args.self.now c.args.n _ c.requires.possible

pub prove-unreachable-requires : goal.prove-unreachable-requires
prove-unreachable-requires c =
    let low = count_words c.args.self.now c.args.n _ c.requires.orderly c.view-view.ensures c.requires.possible in
    let a = low.0 in omega (arith, c.segment_count-segments.ensures, c.if-prove.true)

pub prove-unreachable-requires-2 : goal.prove-unreachable-requires-2
prove-unreachable-requires-2 c =
    let low = count_words c.args.self.now c.args.n _ c.requires.orderly c.view-view.ensures c.requires.possible in
    let a = low.1 in omega (arith, c.segment_count-segments.ensures, c.if-prove-2.true)

pub set-requires : goal.set-requires
set-requires c = seat_low c.args.self.now _ _ c.view-view.ensures

pub returns-clause-after : goal.returns-clause-after
returns-clause-after c =
    let views : c.set.new.self ≡ changed_at with_count c.args.self.now.views c.args.n = replaced _ _ _ _ _ _ c.view-view.ensures c.in-Ok.ensures c.set.ensures in
    rw views refl
