-- What the writing of a branch takes from a run of a course's segments.
use Rattle.std.specs.Prelude.{◌≡◌, ◌<◌, ◌≤◌, ℕ, length}
use Rattle.bundle_frames.specs.declared.closing.Closing.{Closing}
use Rattle.branch_tree.specs.Segments.{segments_in, segment_at}
use Rattle.kernel_copy.specs.Closing.{closing_at}
use Rattle.kernel_copy.specs.declared.kept.Keep.{Keep}
use Rattle.kernel_copy.specs.Courses.{CourseTold}
use Rattle.kernel_copy.specs.Kept.{KeepsFrames, KeepsTally, KeptTold, entries as listed, kept_as}
use Rattle.kernel_copy.specs.Segmentwise.{segment_end, segment_entries}

-- Each segment of the course is among those that are held, with what is kept of its own entries and the closing of its end.
pub record IsRunOf (c : CourseTold) (held : ℕ) (kept_of : ℕ → KeptTold) (closing_of : ℕ → Closing) : Type 0 where
  pub all : length (segments_in c.plan) ≤ held
  pub keep : Keep
  pub kept : (s : ℕ) → s < length (segments_in c.plan) → kept_of s ≡ kept_as keep (segment_entries c.opening c.plan (segment_at c.plan s))
  pub closing : (s : ℕ) → s < length (segments_in c.plan) → closing_of s ≡ closing_at c.opening (segment_end c.opening c.plan (segment_at c.plan s)).state

-- Such a run with the frames of each segment's own entries, or with what tells them.
pub record IsFramedRunOf (c : CourseTold) (held : ℕ) (kept_of : ℕ → KeptTold) (closing_of : ℕ → Closing) : Type 0 where
  pub run : IsRunOf c held kept_of closing_of
  pub frames : KeepsFrames run.keep

-- Such a run with the tally of those frames, or with what tells it.
pub record IsTalliedRunOf (c : CourseTold) (held : ℕ) (kept_of : ℕ → KeptTold) (closing_of : ℕ → Closing) : Type 0 where
  pub run : IsRunOf c held kept_of closing_of
  pub tally : KeepsTally run.keep

-- Each segment of the course is among those that are held, with its own entries themselves and the closing of its end.
pub record IsListedRunOf (c : CourseTold) (held : ℕ) (kept_of : ℕ → KeptTold) (closing_of : ℕ → Closing) : Type 0 where
  pub all : length (segments_in c.plan) ≤ held
  pub entries : (s : ℕ) → s < length (segments_in c.plan) → kept_of s ≡ listed (segment_entries c.opening c.plan (segment_at c.plan s))
  pub closing : (s : ℕ) → s < length (segments_in c.plan) → closing_of s ≡ closing_at c.opening (segment_end c.opening c.plan (segment_at c.plan s)).state
