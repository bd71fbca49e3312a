use Rattle.shelf_core.proofs.Staying.{stays_then}
use Rattle.branch_workers.proofs.grid.shelve_copy.Goals as goal

pub returns-in-Taken-clause-stays : goal.returns-in-Taken-clause-stays
returns-in-Taken-clause-stays g c = c.begin.ensures.stays

pub returns-in-Turn-clause-stays : goal.returns-in-Turn-clause-stays
returns-in-Turn-clause-stays g c =
    stays_then c.args.seat.now.view c.begin.new.seat.view c.fill.new.seat.view c.begin.ensures.stays c.fill.ensures.stays

pub begin-requires-clause-claim : goal.begin-requires-clause-claim
begin-requires-clause-claim g c = c.requires.claim

pub begin-requires-clause-place : goal.begin-requires-clause-place
begin-requires-clause-place g c = c.requires.place

pub begin-requires-clause-seat : goal.begin-requires-clause-seat
begin-requires-clause-seat g c = c.requires.seat

pub fill-requires-clause-course : goal.fill-requires-clause-course
fill-requires-clause-course g c = c.requires.course

pub fill-requires-clause-key : goal.fill-requires-clause-key
fill-requires-clause-key g c = c.requires.key

pub fill-requires-clause-state : goal.fill-requires-clause-state
fill-requires-clause-state g c = c.requires.state
