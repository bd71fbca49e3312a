use Rattle.std.proofs.Common.{refl}
use Rattle.bundle_frames.specs.Frames.{edit_frame}
use Rattle.trace_bundle.proofs.worked.edits_that_are_kept.Goals as goal

pub returns : goal.returns
unfolding edit_frame
returns c = record {
  frames = refl;
  entries = refl;
  tally = refl;
  size = refl;
  nothing = refl;
  bytes = refl;
  run = λ s t. refl;
}
