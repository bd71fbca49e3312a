use Rattle.std.proofs.Common.{◌∙◌}
use Rattle.bundle_frames.proofs.Appends.{one_more}
use Rattle.session_desk.specs.Answered.{value_frame}
use Rattle.session_desk.proofs.frames.put_values.Goals as goal

pub loop-value-preserved : goal.loop-value-preserved
loop-value-preserved c =
    one_more value_frame c.args.values.now c.loop-value.value-index _ _ _ c.loop-value-test.true c.in_ok-put_value.ensures.appended
    ∙ c.loop-value.invariant
