use Rattle.std.proofs.Common.{None}
use Rattle.shelf_core.specs.After.{with_turn}
use Rattle.shelf_core.specs.declared.words.PlaceWord.TheVariants.{Writing}
use Rattle.shelf_core.proofs.Apply.{placed, place_low, begin_at, seat_low, seat_there}
use Rattle.shelf_core.proofs.system.System.begin.Goals as goal

pub view-requires : goal.view-requires
view-requires c = seat_there c.args.self.now c.args.n _ c.requires.possible

pub set-requires : goal.set-requires
set-requires c = seat_low c.args.self.now _ _ c.view.ensures

pub put-requires-clause-word : goal.put-requires-clause-word
put-requires-clause-word c = (place_low _ _ _ c.requires.orderly (begin_at c.args.self.now c.args.n c.args.key c.requires.possible) c.key_place-place.ensures).0

pub put-requires-clause-value : goal.put-requires-clause-value
put-requires-clause-value c = (place_low _ _ _ c.requires.orderly (begin_at c.args.self.now c.args.n c.args.key c.requires.possible) c.key_place-place.ensures).1

pub returns-clause-after : goal.returns-clause-after
returns-clause-after c = placed c.args.self.now _ c.args.n _ _ (Writing c.args.n) None (λ place. with_turn place c.args.key) _ _ _ c.view.ensures c.in-Ok.ensures c.set.ensures c.key_place-place.ensures c.put.ensures
