use Rattle.bundle_reader.proofs.FrameFound.{frame_found, frame_written}
use Rattle.bundle_reader.proofs.laws.frames_are_found.Goals as goal

pub returns : goal.returns
returns c = record { frame = frame_found; written = frame_written }
