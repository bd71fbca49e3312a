-- The bundle of a study: the traces of its branches.
use Rattle.std.specs.Prelude.{ℕ, zero, suc, ◌+◌, ◌==◌, if◌then◌else◌, List, [], ◌++◌, length}
use Rattle.std.specs.List.{flat_map}
use Rattle.bundle_frames.specs.Frames.{header_frame, branch_frame, end_frame, message_frame, feed_frames, entry_frames, closing_frames}
use Rattle.branch_tree.specs.declared.stop.Stop.{Stop}
use Rattle.branch_tree.specs.declared.stop.Stop.TheVariants.{At, When}
use Rattle.branch_tree.specs.Plan.{branch_at, stop_at}
use Rattle.branch_tree.specs.Segments.{origin_of}
use Rattle.kernel_core.specs.Until.{Run}
use Rattle.kernel_copy.specs.Full.{full_run}
use Rattle.kernel_copy.specs.Segmentwise.{parent_end}
use Rattle.kernel_copy.specs.Closing.{closing_at}
use Rattle.kernel_copy.specs.Courses.{CourseTold}
use Rattle.trace_bundle.specs.Feed.{opening_feed, system_event}

-- the number of a branch's parent as it is written: 65,535 for the root, which has none
abbrev pub parent_written : CourseTold → ℕ → ℕ
parent_written c b = if b == 0 then 65535 else (branch_at c.plan.branches b).parent

-- a stop as it is written where so many events stand at it: an event number as it is, and those events for a time
abbrev pub written_stop : ℕ → Stop → ℕ
written_stop events (At n) = n
written_stop events (When w) = events

-- the stop of a branch as it is written: for a time, the events of the end of the segment from which the branch goes on
abbrev pub stop_written : CourseTold → ℕ → ℕ
stop_written c b = written_stop (parent_end c.opening c.plan (origin_of c.plan.branches b)).state.events (stop_at c.plan.branches b)

-- the frame of a branch
abbrev pub head_of : CourseTold → ℕ → List ℕ
head_of c b = branch_frame b (parent_written c b) (stop_written c b) (branch_at c.plan.branches b).name

-- what stands before the entries: the branch's frame, and the feed of the opening
abbrev pub opening_of_trace : CourseTold → ℕ → List ℕ
opening_of_trace c b = head_of c b ++ feed_frames (opening_feed c.opening)

-- the end of the feed and the closing of a run
abbrev pub end_of_trace : CourseTold → Run → List ℕ
end_of_trace c r = message_frame (system_event r.state.time 67) ++ closing_frames (closing_at c.opening r.state)

-- A branch's trace: its frame and the feed of the opening, the entries of its full run, the end of the feed and the closing.
abbrev pub trace_of : CourseTold → ℕ → List ℕ
trace_of c b =
    opening_of_trace c b
    ++ flat_map entry_frames (full_run c.opening c.plan b).entries
    ++ end_of_trace c (full_run c.opening c.plan b)

-- the header of a bundle: how many agents with the exchange, stocks and branches there are
abbrev pub header_of : CourseTold → List ℕ
header_of c = header_frame (length c.opening.traders + 1) (length c.opening.stocks) (length c.plan.branches)

-- the traces of the first n branches
abbrev pub traces_of : CourseTold → ℕ → List ℕ
traces_of c zero = []
traces_of c (suc n) = traces_of c n ++ trace_of c n

-- the bundle: the header, each branch in order, and the end
abbrev pub bundle_of : CourseTold → List ℕ
bundle_of c = header_of c ++ traces_of c (length c.plan.branches) ++ end_frame (length c.plan.branches)
