-- The shelf on which the segments of a course meet.
use Rattle.std.specs.Prelude.{ℕ, ◌+◌, ◌-◌, ◌%◌, ◌==◌, zero, suc, nat_lt, if◌then◌else◌, List, [], ◌∷◌, ◌++◌, length}
use Rattle.branch_tree.specs.declared.segment.Segment.{Segment}
use Rattle.branch_tree.specs.declared.stop.Stop.{Stop}
use Rattle.branch_tree.specs.declared.stop.Stop.TheVariants.{At, When}
use Rattle.branch_tree.specs.Plan.{Plan}
use Rattle.branch_tree.specs.Segments.{segments_in, segment_at, last_of}
use Rattle.shelf_core.specs.declared.plan.Key.{Key}
use Rattle.shelf_core.specs.declared.plan.ShelfPlan.{ShelfPlan}
use Rattle.kernel_copy.specs.Segmentwise.{fork_number}

-- the key of a segment's end
abbrev pub end_key : Plan → ℕ → Key
end_key p s = record { segment = s; event = fork_number (segment_at p s).stop }

-- the keys of those ends from which others go on: of each segment, from this number on, that isn't its branch's last
abbrev pub forks_from : Plan → ℕ → List Segment → List Key
forks_from p s [] = []
forks_from p s (g ∷ gs) =
    if nat_lt s (last_of p.branches g.branch)
    then record { segment = s; event = fork_number g.stop } ∷ forks_from p (s + 1) gs
    else forks_from p (s + 1) gs

abbrev pub fork_keys : Plan → List Key
fork_keys p = forks_from p 0 (segments_in p)

-- the key of an event number in a segment
abbrev pub key_at : ℕ → ℕ → Key
key_at s e = record { segment = s; event = e }

-- the keys of those numbers in a segment, among so many from this one on, that are multiples of the stride
abbrev pub multiples_from : ℕ → ℕ → ℕ → ℕ → List Key
multiples_from stride s e zero = []
multiples_from stride s e (suc n) =
    if e % stride == 0 then key_at s e ∷ multiples_from stride s (e + 1) n else multiples_from stride s (e + 1) n

-- the event number above which the grid of a segment with this start lies: 0, where it starts at a time
abbrev pub start_number : Stop → ℕ
start_number (At n) = n
start_number (When w) = 0

-- the event number below which the grid of a segment with this stop lies: the limit of events, where it stops at a time
abbrev pub stop_number : ℕ → Stop → ℕ
stop_number limit (At n) = n
stop_number limit (When w) = limit

-- the grid of a segment: the multiples of the stride strictly between the numbers of its start and its stop
abbrev pub grid_of : ℕ → ℕ → ℕ → Segment → List Key
grid_of limit stride s g = multiples_from stride s (start_number g.start + 1) (stop_number limit g.stop - (start_number g.start + 1))

-- the grids of the segments from this number on, in order of segment and event
abbrev pub grids_from : ℕ → ℕ → ℕ → List Segment → List Key
grids_from limit stride s [] = []
grids_from limit stride s (g ∷ gs) = grid_of limit stride s g ++ grids_from limit stride (s + 1) gs

abbrev pub grid_keys : Plan → ℕ → List Key
grid_keys p stride = grids_from p.limit stride 0 (segments_in p)

-- what a shelf is laid out for: a word for each segment, a place for each fork, and so many for the grid of a stride
abbrev pub layout : Plan → ℕ → ℕ → ShelfPlan
layout p stride places = record { segments = length (segments_in p); forks = fork_keys p; grid = grid_keys p stride; places = places }
