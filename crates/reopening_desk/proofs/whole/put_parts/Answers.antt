use Rattle.std.proofs.Common.{◌∙◌}
use Rattle.bundle_frames.proofs.Appends.{one_more}
use Rattle.reopening_desk.specs.Frames.{part_frame}
use Rattle.reopening_desk.proofs.whole.put_parts.Goals as goal

pub loop-part-preserved : goal.loop-part-preserved
loop-part-preserved c =
    one_more part_frame c.args.parts.now c.loop-part.part-index _ _ _ c.loop-part-test.true c.in_ok-put_part.ensures.appended
    ∙ c.loop-part.invariant
