use Rattle.std.proofs.Common.{◌∙◌}
use Rattle.outside.proofs.Appended.{appended-piece, within_rest, first_part}
use Rattle.outside.proofs.sink.write_all.Goals as goal

pub returns-in-Err-clause-cut : goal.returns-in-Err-clause-cut
returns-in-Err-clause-cut g c = first_part _ _ _ _ _ c.loop-done.invariant.taken c.in-Err.ensures.nothing

pub loop-done-preserved : goal.loop-done-preserved
loop-done-preserved g c = record {
  within = within_rest c.loop-done.done c.in-Ok.count c.args.piece.now c.loop-done.invariant.within c.in-Ok.ensures.within;
  taken = appended-piece _ _ _ c.loop-done.done c.in-Ok.count c.args.piece.now c.loop-done.invariant.taken c.in-Ok.ensures.appends;
  steady = c.in-Ok.ensures.steady ∙ c.loop-done.invariant.steady;
}
