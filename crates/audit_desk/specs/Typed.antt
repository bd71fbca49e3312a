-- Numbers of a course's segments that are as their fields hold them, as those are that have the fields' types.
use Rattle.std.specs.Prelude.{◌≡◌, ℕ, All}
use Rattle.market_types.specs.Told.{EntryTold, event, edit}
use Rattle.branch_tree.specs.Segments.{segment_at}
use Rattle.bundle_reader.specs.Bundle.{event_part}
use Rattle.kernel_copy.specs.Closing.{closing_at}
use Rattle.kernel_copy.specs.Courses.{CourseTold}
use Rattle.kernel_copy.specs.Segmentwise.{segment_end, segment_entries}
use Rattle.audit_desk.specs.Clipped.{clipped_closing, clipped_event}

-- an event but for its feed; of edits nothing is asked
abbrev pub IsTyped : EntryTold → Type 0
IsTyped (event e) = event_part (clipped_event e) ≡ event_part e
IsTyped (edit d) = Unit {0}

-- a segment's own entries, and the closing of its end
pub record IsTypedSegment (c : CourseTold) (s : ℕ) : Type 0 where
  pub entries : All IsTyped (segment_entries c.opening c.plan (segment_at c.plan s))
  pub closing : clipped_closing (closing_at c.opening (segment_end c.opening c.plan (segment_at c.plan s)).state)
      ≡ closing_at c.opening (segment_end c.opening c.plan (segment_at c.plan s)).state
