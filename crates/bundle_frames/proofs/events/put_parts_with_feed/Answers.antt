use Rattle.std.proofs.Common.{[], ◌++◌}
use Rattle.bundle_frames.specs.Frames.{event_frame, feed_frames}
use Rattle.bundle_frames.specs.Heads.{headed}
use Rattle.bundle_frames.proofs.Appends.{then_part, then_last}
use Rattle.bundle_frames.proofs.events.put_parts_with_feed.Goals as goal

pub returns : goal.returns
unfolding event_frame
returns c =
    let before = feed_frames c.args.before.now in
    let here = event_frame (headed c.args.head.now c.args.body.now [] []) in
    then_last _ _ _ _ (before ++ here) (feed_frames c.args.after.now)
    (then_part _ _ _ before here c.in_ok-put_all.ensures c.in_ok-put_parts.ensures.appended)
    c.put_all-2.ensures
