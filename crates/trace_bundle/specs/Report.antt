-- The six lines that tell of a large study's run.
use Rattle.std.specs.Prelude.{ℕ, zero, suc, ◌+◌, List, [], ◌∷◌, ◌++◌, length, sum, codes}
use Rattle.std.specs.Fmt.{decimal}
use Rattle.kernel_copy.specs.Courses.{CourseTold}
use Rattle.kernel_copy.specs.Full.{full_run}
use Rattle.kernel_copy.specs.Segmentwise as segmentwise
use Rattle.trace_bundle.specs.Bundle.{bundle_of}

-- how many events the full runs of the first n branches have
abbrev pub events_before : CourseTold → ℕ → ℕ
events_before c zero = 0
events_before c (suc n) = events_before c n + (full_run c.opening c.plan n).state.events

-- the length of the bundle
unfoldable pub bundle_size : CourseTold → ℕ
bundle_size c = length (bundle_of c)

-- the sum of the bundle's bytes
unfoldable pub byte_sum : CourseTold → ℕ
byte_sum c = sum (bundle_of c)

-- a number behind its name
abbrev pub line : List ℕ → ℕ → List ℕ
line name number = name ++ 32 ∷ decimal number ++ 10 ∷ []

-- the lines of these numbers
abbrev pub six_lines : ℕ → ℕ → ℕ → ℕ → ℕ → ℕ → List ℕ
six_lines study branches events distinct size total =
    line (codes "study bytes") study ++ line (codes "branches") branches ++ line (codes "events") events
    ++ line (codes "distinct") distinct ++ line (codes "bundle bytes") size ++ line (codes "byte sum") total

-- the lines of a course, whose study has so many bytes
unfoldable pub big_lines_of : ℕ → CourseTold → List ℕ
big_lines_of study c =
    six_lines study (length c.plan.branches) (events_before c (length c.plan.branches)) (segmentwise.distinct c.opening c.plan)
    (bundle_size c) (byte_sum c)
