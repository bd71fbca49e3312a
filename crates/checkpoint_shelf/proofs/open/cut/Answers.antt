use Rattle.std.proofs.Common.{arith, ap}
use Rattle.checkpoint_shelf.proofs.Opens.{splits}
use Rattle.checkpoint_shelf.proofs.open.cut.Goals as goal

pub split_seat-requires : goal.split_seat-requires
split_seat-requires g c = let made = ap (λ m. m.0.made) c.requires.first in let more = c.requires.more in
    (c.requires.table, c.requires.words, splits _ _ _ c.args.table.now.key _ c.args.first.now.me.0 (ap (λ m. m.0.leads) c.requires.first) (omega arith))
