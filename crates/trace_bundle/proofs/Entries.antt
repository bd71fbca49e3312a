-- The entries up to a segment's end.
use Rattle.std.proofs.Common.{◌≡◌, ◌<◌, ℕ, List, ◌++◌, Option, None, Some, length, sym, ap, ◌∙◌}
use Rattle.std.specs.List.{flat_map}
use Rattle.std.proofs.lemmas.Grind.{flat_map-append}
use Rattle.bundle_frames.specs.Frames.{entry_frames}
use Rattle.branch_tree.specs.Segments.{segment_at, segments_in}
use Rattle.kernel_core.specs.Until.{Run}
use Rattle.kernel_copy.specs.Courses.{CourseTold, IsCourse}
use Rattle.kernel_copy.specs.Segmentwise.{parent_end, segment_entries}
use Rattle.kernel_copy.proofs.Trees.{course-tree}
use Rattle.kernel_copy.proofs.Walks.{segment-copy}
use Rattle.trace_bundle.specs.Tallied.{frames_to, own_frames}

-- the frames up to what a segment goes on from
abbrev frames_before : CourseTold → Option ℕ → List ℕ
frames_before c q = flat_map entry_frames (parent_end c.opening c.plan q).entries

-- the frames up to a segment's end: those up to its parent's, and its own
pub frames-goes-on : (c : CourseTold) (s : ℕ) (q : Option ℕ) → IsCourse c → s < length (segments_in c.plan) → (segment_at c.plan s).parent ≡ q
    → flat_map entry_frames (parent_end c.opening c.plan q).entries ++ own_frames c s ≡ frames_to c s
frames-goes-on c s q course l is =
    let g = segment_at c.plan s in
    ap (λ (x : Option ℕ). frames_before c x ++ own_frames c s) (sym is)
    ∙ sym (flat_map-append entry_frames (parent_end c.opening c.plan g.parent).entries (segment_entries c.opening c.plan g))
    ∙ ap (λ (r : Run). flat_map entry_frames r.entries) (sym (segment-copy c.opening c.plan s (course-tree c course) course.limit l))

-- a first segment's are its own
pub frames-first : (c : CourseTold) (s : ℕ) → IsCourse c → s < length (segments_in c.plan) → (segment_at c.plan s).parent ≡ None → own_frames c s ≡ frames_to c s
frames-first c s course l none = frames-goes-on c s None course l none

pub frames-next : (c : CourseTold) (s q : ℕ) → IsCourse c → s < length (segments_in c.plan) → (segment_at c.plan s).parent ≡ Some q → frames_to c q ++ own_frames c s ≡ frames_to c s
frames-next c s q course l some = frames-goes-on c s (Some q) course l some
