use Rattle.market_types.specs.Told.{edit_told}
use Rattle.bundle_frames.specs.Frames.{edit_frame, feed_frames}
use Rattle.bundle_frames.proofs.Appends.{then_last}
use Rattle.bundle_frames.proofs.items.EditMarkWritten.put.Goals as goal

pub returns : goal.returns
unfolding edit_frame
returns c =
    then_last _ _ _ _ (edit_frame (edit_told c.args.self.now)) (feed_frames c.args.self.now.feed.list)
    (rw c.edit_frame.ensures at c.in_ok-frame.ensures.appended)
    (rw c.as_slice.ensures at c.put_all.ensures)
