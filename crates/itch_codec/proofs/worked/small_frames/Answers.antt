use Rattle.itch_codec.proofs.FrameLaws.{unframed_again}
use Rattle.itch_codec.proofs.worked.small_frames.Goals as goal

pub returns-clause-again : goal.returns-clause-again
returns-clause-again c = unframed_again
