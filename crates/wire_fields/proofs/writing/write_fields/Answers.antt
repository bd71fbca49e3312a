use Rattle.std.proofs.Common.{arith}
use Rattle.wire_fields.specs.Wire.{total_width}
use Rattle.wire_fields.proofs.Tables.{write_first, write_at, write_all, width_there}
use Rattle.wire_fields.proofs.writing.write_fields.Goals as goal

pub loop-i-init : goal.loop-i-init
loop-i-init c = write_first c.args.kinds.now c.args.values.now c.args.out.now c.requires.widths

pub loop-i-preserved : goal.loop-i-preserved
loop-i-preserved c =
    write_at c.args.kinds.now c.args.values.now c.loop-i.i _ _ c.loop-i.at c.width.result _ _ _ c.loop-i.out c.put.new.out
    c.loop-i-test.true c.requires.widths c.loop-i.invariant (omega arith) c.width.ensures c.put.ensures (omega arith)

pub put-requires-clause-fits : goal.put-requires-clause-fits
put-requires-clause-fits c = width_there c.args.kinds.now c.args.values.now c.loop-i.i _ _ c.loop-i-test.true c.requires.widths c.loop-i.invariant.fitting

pub returns : goal.returns
returns c = write_all c.args.kinds.now c.args.values.now c.loop-i.i c.loop-i.at _ (total_width c.args.kinds.now) c.args.out.now c.loop-i.out c.loop-i-test.false c.loop-i.invariant
