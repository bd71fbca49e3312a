-- Runs of segments.
use Rattle.std.specs.Prelude.{ℕ, ◌-◌, ◌==◌, Bool, false, ◌&&◌, ◌||◌, nat_lt, nat_le, if◌then◌else◌, List, [], ◌∷◌, ◌++◌, Option, None, Some, option_map, unwrap_or, sum_by, take, suc, zero}
use Rattle.market_types.specs.Told.{EntryTold}
use Rattle.branch_tree.specs.declared.segment.Segment.{Segment}
use Rattle.branch_tree.specs.declared.stop.Stop.{Stop}
use Rattle.branch_tree.specs.declared.stop.Stop.TheVariants.{At, When}
use Rattle.branch_tree.specs.Plan.{Plan}
use Rattle.branch_tree.specs.Segments.{segments_in, segment_at, last_of}
use Rattle.market_floor.specs.declared.opening.Opening.{Opening}
use Rattle.kernel_core.specs.State.{State}
use Rattle.kernel_core.specs.Until.{Run}
pub use Rattle.kernel_core.specs.Seen.{afresh}
use Rattle.kernel_copy.specs.UntilStop.{until_stop}
use Rattle.kernel_copy.specs.Full.{opening_run, edited_by, reach, full}

-- the end of a segment: its branch's run at the segment's stop, before any child's edits
unfoldable pub segment_end : Opening → Plan → Segment → Run
segment_end o p g = reach o p g.branch g.stop

-- the run from which a segment with this parent goes on
abbrev pub parent_end : Opening → Plan → Option ℕ → Run
parent_end o p None = opening_run o
parent_end o p (Some q) = segment_end o p (segment_at p q)

-- A segment's own run at its beginning: it goes on from its parent's end with no entry, and where it is its branch's
-- first, its parent being of another branch, with the branch's edits made.
abbrev pub started_from : Opening → Plan → ℕ → Option ℕ → Run
started_from o p b None = opening_run o
started_from o p b (Some q) =
    if (segment_at p q).branch == b
    then afresh (segment_end o p (segment_at p q)).state
    else edited_by p.branches b (afresh (segment_end o p (segment_at p q)).state)

unfoldable pub started_at : Opening → Plan → Segment → Run
started_at o p g = started_from o p g.branch g.parent

-- a segment's own run
abbrev pub segment_run : Opening → Plan → Segment → Run
segment_run o p g = until_stop o g.stop (started_at o p g)

-- a segment's entries: its branch's edits where it is the branch's first, and then its own events
abbrev pub segment_entries : Opening → Plan → Segment → List EntryTold
segment_entries o p g = (segment_run o p g).entries

-- the events before a segment's own
abbrev pub from_count : Opening → Plan → Segment → ℕ
from_count o p g = (parent_end o p g.parent).state.events

-- how many events a segment has of its own
abbrev pub own_count : Opening → Plan → Segment → ℕ
own_count o p g = (segment_end o p g).state.events - from_count o p g

-- the number in the key of a segment's end
abbrev pub fork_number : Stop → ℕ
fork_number (At n) = n
fork_number (When w) = 16777215

-- a number after an end with so many events, up to the stop where that is an event number
abbrev pub is_past : ℕ → Stop → ℕ → Bool
is_past events (At n) e = nat_lt events e && nat_le e n
is_past events (When w) e = false

-- A segment's state after e events, from those before its own to those of its end: its branch's full run up to them. For the
-- number of its end's key, and for each number past the end's events up to its stop, it is the end's.
abbrev pub after : Opening → Plan → Segment → ℕ → State
after o p g e =
    if e == fork_number g.stop || is_past (segment_end o p g).state.events g.stop e
    then (segment_end o p g).state
    else (full o p g.branch e).state

-- at most so many segments from which a segment goes on, the farthest first, and itself
abbrev pub chain_within : ℕ → Plan → ℕ → List ℕ
chain_within zero p s = s ∷ []
chain_within (suc n) p s = unwrap_or (option_map (λ (q : ℕ). chain_within n p q) (segment_at p s).parent) [] ++ s ∷ []

-- a segment, its parent and so on to the root's first, that one in front
abbrev pub chain_to : Plan → ℕ → List ℕ
chain_to p s = chain_within s p s

-- the chain of a branch's last segment
abbrev pub chain_of : Plan → ℕ → List ℕ
chain_of p b = chain_to p (last_of p.branches b)

-- how many events the segments before this one have of their own
abbrev pub own_before : Opening → Plan → ℕ → ℕ
own_before o p n = sum_by (λ (g : Segment). own_count o p g) (take n (segments_in p))

-- how many events all segments have of their own
abbrev pub distinct : Opening → Plan → ℕ
distinct o p = sum_by (λ (g : Segment). own_count o p g) (segments_in p)
