-- The tallies of segments' own entries, and of a bundle's parts.
use Rattle.std.specs.Prelude.{◌≡◌, ◌<◌, ◌≤◌, ◌+◌, ◌*◌, ◌^◌, ◌++◌, ℕ, List, length, slice_index_or}
use Rattle.std.specs.List.{flat_map}
use Rattle.bundle_frames.specs.Frames.{entry_frames}
use Rattle.branch_tree.specs.Segments.{segment_at, segments_in}
use Rattle.kernel_copy.specs.Courses.{CourseTold}
use Rattle.kernel_copy.specs.Kept.{KeptTold, entries, frames, nothing, tallied}
use Rattle.kernel_copy.specs.Segmentwise.{segment_end, segment_entries}
use Rattle.kernel_copy.specs.Tallies.{IsTallyOf, no_tally, tally_of}
use Rattle.kernel_copy.specs.declared.tally.Tally.{Tally}

-- the frames of a segment's own entries
abbrev pub own_frames : CourseTold → ℕ → List ℕ
own_frames c s = flat_map entry_frames (segment_entries c.opening c.plan (segment_at c.plan s))

-- the frames of all entries from the opening to a segment's end
abbrev pub frames_to : CourseTold → ℕ → List ℕ
frames_to c s = flat_map entry_frames (segment_end c.opening c.plan (segment_at c.plan s)).entries

-- A carrier that takes what is kept of a segment as such bytes takes what is kept of each as the frames of its own entries.
abbrev pub AreOwn : (ℕ → KeptTold → List ℕ → Type 0) → CourseTold → (ℕ → KeptTold) → Type 0
AreOwn own c kept_of = (s : ℕ) → s < length (segments_in c.plan) → own s (kept_of s) (own_frames c s)

-- What is kept tells these bytes of frames, or their tally.
abbrev pub IsKeptOf : KeptTold → List ℕ → Type 0
IsKeptOf (entries xs) bytes = flat_map entry_frames xs ≡ bytes
IsKeptOf (frames told) bytes = told ≡ bytes
IsKeptOf (tallied tally) bytes = tally ≡ tally_of bytes
IsKeptOf nothing bytes = ⊥

-- The tallies of the first n segments' own entries.
pub record AreTalliesOf (c : CourseTold) (n : ℕ) (ts : List Tally) : Type 0 where
  pub all : length ts ≡ n
  pub each : (s : ℕ) → s < n → IsTallyOf (slice_index_or ts s no_tally) (own_frames c s) 1

-- The tally that stands for a segment is that of these bytes.
pub record IsOwnTally (ts : List Tally) (s : ℕ) (bytes : List ℕ) : Type 0 where
  pub there : s < length ts
  pub tally : IsTallyOf (slice_index_or ts s no_tally) bytes 1

-- The second tally is the first with these bytes behind, which came in at most so many parts, where all parts together are few.
pub record IsWith (t u : Tally) (bytes : List ℕ) (parts : ℕ) : Type 0 where
  pub behind : (before : List ℕ) (n : ℕ) → n + parts ≤ 2 ^ 30 → IsTallyOf t before n → IsTallyOf u (before ++ bytes) (n + parts)

-- the most parts of the trace of a branch: its beginning, its segments and its ending
abbrev pub parts_of_trace : CourseTold → ℕ
parts_of_trace c = length (segments_in c.plan) + 2

-- the most parts of the traces of the first n branches
abbrev pub parts_before : CourseTold → ℕ → ℕ
parts_before c n = n * parts_of_trace c

-- the most parts of a bundle, with its header and its end
abbrev pub parts_of_bundle : CourseTold → ℕ
parts_of_bundle c = parts_before c (length c.plan.branches) + 2
