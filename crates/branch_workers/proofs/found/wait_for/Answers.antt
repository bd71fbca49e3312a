use Rattle.std.proofs.Common.{◌∙◌, refl}
use Rattle.shelf_core.proofs.Staying.{stays_then, stays_self}
use Rattle.branch_workers.proofs.found.wait_for.Goals as goal

pub loop-preserved : goal.loop-preserved
loop-preserved g c = record {
  can = tt;
  fin = tt;
  same = c.find.ensures.same ∙ c.loop.invariant.same;
  stays = stays_then c.args.seat.now.view c.loop.seat.view c.find.new.seat.view c.loop.invariant.stays c.find.ensures.stays;
  turns = c.find.ensures.turns ∙ c.loop.invariant.turns;
}

pub returns-in-Here-clause-stays : goal.returns-in-Here-clause-stays
returns-in-Here-clause-stays g c = stays_then c.args.seat.now.view c.loop.seat.view c.find.new.seat.view c.loop.invariant.stays c.find.ensures.stays

pub returns-in_default-clause-stays : goal.returns-in_default-clause-stays
returns-in_default-clause-stays g c = stays_then c.args.seat.now.view c.loop.seat.view c.find.new.seat.view c.loop.invariant.stays c.find.ensures.stays

pub loop-init : goal.loop-init
loop-init g c = record { can = tt; fin = tt; same = refl; stays = stays_self c.args.seat.now.view; turns = refl }

pub find-requires-clause-place : goal.find-requires-clause-place
find-requires-clause-place g c = c.requires.place

pub find-requires-clause-seat : goal.find-requires-clause-seat
find-requires-clause-seat g c = c.loop.invariant.same ∙ c.requires.seat

pub returns-in-Here-clause-same : goal.returns-in-Here-clause-same
returns-in-Here-clause-same g c = c.find.ensures.same ∙ c.loop.invariant.same

pub returns-in-Here-clause-turns : goal.returns-in-Here-clause-turns
returns-in-Here-clause-turns g c = c.find.ensures.turns ∙ c.loop.invariant.turns

pub returns-in_default-clause-same : goal.returns-in_default-clause-same
returns-in_default-clause-same g c = c.find.ensures.same ∙ c.loop.invariant.same

pub returns-in_default-clause-turns : goal.returns-in_default-clause-turns
returns-in_default-clause-turns g c = c.find.ensures.turns ∙ c.loop.invariant.turns

pub returns-in-Here-clause-found : goal.returns-in-Here-clause-found
returns-in-Here-clause-found g c =
    let found = rw c.in-Here.is at c.in-Ok.ensures.found in
    let got = rw c.in-Here.is at c.in-Ok.ensures.got in
    (found.0, found.1, got)
