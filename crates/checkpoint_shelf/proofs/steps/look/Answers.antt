use Rattle.std.proofs.Common.{arith}
use Rattle.checkpoint_shelf.proofs.Places.{looks}
use Rattle.checkpoint_shelf.proofs.Hands.{found_seat, found_seen}
use Rattle.checkpoint_shelf.proofs.steps.look.Goals as goal

pub load-found-requires : goal.load-found-requires
load-found-requires g c = let w = c.requires.words in let p = c.requires.place in
    (c.requires.table, omega arith, looks _ _ _ c.args.table.now.key _ _ c.args.number _ c.args.place _ c.requires.seat (omega arith) c.requires.place)

pub returns-clause-seat : goal.returns-clause-seat
returns-clause-seat g c = let x = c.load-found.ensures.2 c.args.table.now.key c.requires.seat.about c.args.place (omega arith) in
    found_seat _ _ _ _ c.requires.seat c.args.place c.load-found.result x.0 x.1 x.2

pub returns-clause-fits : goal.returns-clause-fits
returns-clause-fits g c = let x = c.load-found.ensures.2 c.args.table.now.key c.requires.seat.about c.args.place (omega arith) in
    (found_seen c.args.table.now.key c.args.number c.args.seat.now.me c.load-found.new.seat.me c.requires.seat c.args.place c.load-found.result x.0 c.decode.result c.decode.ensures x.1).1

pub returns-clause-seen : goal.returns-clause-seen
returns-clause-seen g c = let x = c.load-found.ensures.2 c.args.table.now.key c.requires.seat.about c.args.place (omega arith) in
    (found_seen c.args.table.now.key c.args.number c.args.seat.now.me c.load-found.new.seat.me c.requires.seat c.args.place c.load-found.result x.0 c.decode.result c.decode.ensures x.1).2
