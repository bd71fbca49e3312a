-- The states that are kept on the way.
use Rattle.std.specs.Prelude.{ℕ, Bool}
use Rattle.shelf_core.specs.declared.plan.Key.{Key}
use Rattle.kernel_copy.specs.Courses.{CourseTold}
use Rattle.branch_workers.specs.Layout.{layout}
use Rattle.rewind_desk.specs.Left.{AreLeft, is_possible, nearest_of}
use Rattle.session_desk.specs.Counted.{Kept}

-- The states of these keys may be those that are kept of a course, where a copy is kept each so many events and so many places are
-- there for the states between the ends of segments: all that are sure to be kept, and of those that share a place one at most.
abbrev pub MayBeKept : CourseTold → ℕ → ℕ → (Key → Bool) → Type 0
MayBeKept c stride places held = AreLeft c (layout c.plan stride places) held

-- how many events the nearest of them has
abbrev pub kept_under : CourseTold → ℕ → ℕ → (Key → Bool) → Kept
kept_under c stride places held b e = nearest_of c (layout c.plan stride places) held b e

-- The states that may be kept: those that a segment has and for which there is a place. With no places, with an empty grid and with
-- a place for each of its keys, where none lies past the end of a run, they are as near as those that are sure to be kept.
abbrev pub possibly_kept : CourseTold → ℕ → ℕ → Kept
possibly_kept c stride places b e = kept_under c stride places (is_possible c (layout c.plan stride places)) b e
