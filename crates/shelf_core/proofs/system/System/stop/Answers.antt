use Rattle.std.proofs.Common.{◌≡◌, refl}
use Rattle.shelf_core.specs.Views.{changed_at}
use Rattle.shelf_core.specs.After.{having_stopped}
use Rattle.shelf_core.proofs.Apply.{replaced, seat_low, seat_there}
use Rattle.shelf_core.proofs.system.System.stop.Goals as goal

pub view-requires : goal.view-requires
view-requires c = seat_there c.args.self.now c.args.n _ c.requires.possible

pub set-requires : goal.set-requires
set-requires c = seat_low c.args.self.now _ _ c.view.ensures

pub returns-clause-after : goal.returns-clause-after
returns-clause-after c =
    let views : c.set.new.self ≡ changed_at having_stopped c.args.self.now.views c.args.n = replaced _ _ _ _ _ _ c.view.ensures c.in-Ok.ensures c.set.ensures in
    rw views refl
