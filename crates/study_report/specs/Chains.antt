-- The segments that a branch's full run goes along.
use Rattle.std.specs.Prelude.{◌≡◌, ◌<◌, ℕ, List, length, All}
use Rattle.std.specs.List.{flat_map}
use Rattle.market_types.specs.Told.{EntryTold}
use Rattle.branch_tree.specs.Segments.{segments_in, segment_at}
use Rattle.kernel_copy.specs.Courses.{CourseTold}
use Rattle.kernel_copy.specs.Segmentwise.{segment_entries}
use Rattle.study_report.specs.Tables.{run_of}

-- a segment's own entries
abbrev pub entries_at : CourseTold → ℕ → List EntryTold
entries_at c s = segment_entries c.opening c.plan (segment_at c.plan s)

-- the own entries of segments, one after another
abbrev pub entries_along : CourseTold → List ℕ → List EntryTold
entries_along c chain = flat_map (λ (s : ℕ). entries_at c s) chain

-- these are segments of the course
abbrev pub AreSegments : CourseTold → List ℕ → Type 0
AreSegments c chain = All (λ (s : ℕ). s < length (segments_in c.plan)) chain

-- A branch's full run goes along these segments.
pub record IsChainOf (c : CourseTold) (b : ℕ) (chain : List ℕ) : Type 0 where
  pub segments : AreSegments c chain
  pub entries : (run_of c b).entries ≡ entries_along c chain
