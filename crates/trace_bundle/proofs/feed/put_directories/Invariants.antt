use Rattle.std.proofs.Common.{◌≡◌, ◌++◌}
use Rattle.bundle_frames.specs.Frames.{feed_frames}
use Rattle.trace_bundle.specs.Feed.{directories}
use Rattle.trace_bundle.proofs.feed.put_directories.Given as goal

abbrev pub invariant-loop-k : goal.invariant-loop-k
invariant-loop-k l = l.out.items ≡ l.initial.out.items ++ feed_frames (directories l.o l.k)
