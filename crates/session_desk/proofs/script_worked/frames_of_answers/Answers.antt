use Rattle.std.proofs.Common.{refl}
use Rattle.bundle_frames.specs.Frames.{end_frame}
use Rattle.session_desk.specs.Answered.{session_bytes, value_frame}
use Rattle.session_desk.proofs.script_worked.frames_of_answers.Goals as goal

pub returns-clause-positive : goal.returns-clause-positive
unfolding value_frame
returns-clause-positive c = refl

pub returns-clause-negative : goal.returns-clause-negative
unfolding value_frame
returns-clause-negative c = refl

pub returns-clause-changes : goal.returns-clause-changes
unfolding session_bytes end_frame
returns-clause-changes c = refl
