-- Segments of branches.
use Rattle.std.specs.Prelude.{ℕ, ◌+◌, ◌==◌, Bool, false, nat_lt, if◌then◌else◌, List, [], ◌∷◌, ◌++◌, Option, Some, None, length, slice_index_or, suc, zero}
use Rattle.branch_tree.specs.declared.branch.Branch.{Branch}
use Rattle.branch_tree.specs.declared.segment.Segment.{Segment}
use Rattle.branch_tree.specs.declared.stop.Stop.{Stop}
use Rattle.branch_tree.specs.declared.stop.Stop.TheVariants.{At}
use Rattle.branch_tree.specs.Stops.{number_of}
use Rattle.branch_tree.specs.Plan.{Plan, parent_at, stop_at}

-- a stop joins stops of its kind that rise, and stands there once
abbrev pub joined_stop : Stop → List Stop → List Stop
joined_stop x [] = x ∷ []
joined_stop x (y ∷ ys) =
    if nat_lt (number_of x) (number_of y) then x ∷ (y ∷ ys)
    else (if number_of x == number_of y then y ∷ ys else y ∷ joined_stop x ys)

-- the distinct stops at which branches of a list leave a branch, rising
abbrev pub stops_among : ℕ → List Branch → List Stop
stops_among b [] = []
stops_among b (c ∷ cs) = if c.parent == b then joined_stop c.stop (stops_among b cs) else stops_among b cs

-- the distinct stops at which its children leave a branch, rising; the root is no child
abbrev pub cuts_of : List Branch → ℕ → List Stop
cuts_of [] b = []
cuts_of (root ∷ bs) b = stops_among b bs

-- how many segments the branches before this one have
abbrev pub count_before : List Branch → ℕ → ℕ
count_before branches zero = 0
count_before branches (suc b) = count_before branches b + (length (cuts_of branches b) + 1)

-- the number of a branch's last segment, which ends at the limit of events
abbrev pub last_of : List Branch → ℕ → ℕ
last_of branches b = count_before branches b + length (cuts_of branches b)

-- how many of these stops come before a stop of their kind
abbrev pub place_among : Stop → List Stop → ℕ
place_among x [] = 0
place_among x (y ∷ ys) = if number_of x == number_of y then 0 else place_among x ys + 1

-- the segment from whose end a branch goes on: that of its parent which ends at the stop and isn't the parent's last
abbrev pub fork_of : List Branch → ℕ → ℕ
fork_of branches b = count_before branches (parent_at branches b)
    + place_among (stop_at branches b) (cuts_of branches (parent_at branches b))

-- what a branch's first segment goes on from
abbrev pub origin_of : List Branch → ℕ → Option ℕ
origin_of branches b = if b == 0 then None else Some (fork_of branches b)

-- A branch's segments from this number and this start on, cut at these stops: each but the first goes on from the one
-- before it, and the last runs to the limit of events.
abbrev pub parts : ℕ → ℕ → ℕ → Option ℕ → Stop → List Stop → List Segment
parts limit branch number parent start [] =
    record { branch = branch; start = start; stop = At limit; parent = parent } ∷ []
parts limit branch number parent start (cut ∷ cuts) =
    record { branch = branch; start = start; stop = cut; parent = parent }
    ∷ parts limit branch (number + 1) (Some number) cut cuts

-- the segments of one branch
abbrev pub segments_of : List Branch → ℕ → ℕ → List Segment
segments_of branches limit b =
    parts limit b (count_before branches b) (origin_of branches b) (stop_at branches b) (cuts_of branches b)

-- the segments of the branches before this one
abbrev pub segments_before : List Branch → ℕ → ℕ → List Segment
segments_before branches limit zero = []
segments_before branches limit (suc b) = segments_before branches limit b ++ segments_of branches limit b

-- the segments of all branches, by branch and then in order along its run
abbrev pub segments_in : Plan → List Segment
segments_in p = segments_before p.branches p.limit (length p.branches)

-- no segment
abbrev pub no_segment : Segment
no_segment = record { branch = 0; start = At 0; stop = At 0; parent = None }

-- a segment by its number
abbrev pub segment_at : Plan → ℕ → Segment
segment_at p s = slice_index_or (segments_in p) s no_segment

-- so many numbers from this one on
abbrev pub counted : ℕ → ℕ → List ℕ
counted k zero = []
counted k (suc n) = k ∷ counted (k + 1) n

-- the numbers of a branch's segments
abbrev pub numbers_of : Plan → ℕ → List ℕ
numbers_of p b = counted (count_before p.branches b) (length (cuts_of p.branches b) + 1)

-- a segment with this parent goes on from a segment's end
abbrev pub is_child : ℕ → Option ℕ → Bool
is_child s None = false
is_child s (Some q) = q == s

-- the numbers of the segments from this number on that go on from a segment
abbrev pub children_from : ℕ → ℕ → List Segment → List ℕ
children_from s k [] = []
children_from s k (g ∷ gs) = if is_child s g.parent then k ∷ children_from s (k + 1) gs else children_from s (k + 1) gs

-- the numbers of the segments that go on from a segment's end
abbrev pub children_of : Plan → ℕ → List ℕ
children_of p s = children_from s 0 (segments_in p)
