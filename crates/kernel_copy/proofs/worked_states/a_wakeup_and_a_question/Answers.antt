use Rattle.std.proofs.Common.{refl}
use Rattle.bundle_frames.specs.Frames.{waiting_frame}
use Rattle.kernel_copy.proofs.worked_states.a_wakeup_and_a_question.Goals as goal

pub returns : goal.returns
unfolding waiting_frame
returns c = record { wakeup = refl; ask = refl }
