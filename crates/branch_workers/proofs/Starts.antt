-- Segments start within the limit of events.
use Rattle.std.proofs.Common.{ℕ, zero, suc, ◌+◌, ◌<◌, ◌≤◌, All, List, [], ◌∷◌, ◌++◌, Option, Some, length, arith}
use Rattle.std.proofs.lemmas.List.Elements.{All-nil, All-cons, All-head, All-tail, All-append, All-from_get_or, All-get_or}
use Rattle.branch_tree.specs.declared.branch.Branch.{Branch}
use Rattle.branch_tree.specs.declared.segment.Segment.{Segment}
use Rattle.branch_tree.specs.declared.stop.Stop.{Stop}
use Rattle.branch_tree.specs.declared.stop.Stop.TheVariants.{At, When}
use Rattle.branch_tree.specs.Stops.{IsWithin}
use Rattle.branch_tree.specs.Plan.{Plan, stop_at}
use Rattle.branch_tree.specs.Planned.{IsTree}
use Rattle.branch_tree.specs.Segments.{cuts_of, count_before, origin_of, parts, segments_of, segments_before, segments_in, segment_at, no_segment}
use Rattle.kernel_copy.proofs.Walks.{planned-at}
use Rattle.branch_workers.specs.Layout.{start_number}

abbrev StartsWithin : ℕ → Segment → Type 0
StartsWithin limit g = IsWithin limit g.start

abbrev StopsWithin : ℕ → Segment → Type 0
StopsWithin limit g = IsWithin limit g.stop

all_left : (P : Segment → Type 0) (xs ys : List Segment) → All P (xs ++ ys) → All P xs
all_left P [] ys all = All-nil P
all_left P (x ∷ xs) ys all = All-cons P x xs (All-head P x (xs ++ ys) all) (all_left P xs ys (All-tail P x (xs ++ ys) all))

all_right : (P : Segment → Type 0) (xs ys : List Segment) → All P (xs ++ ys) → All P ys
all_right P [] ys all = all
all_right P (x ∷ xs) ys all = all_right P xs ys (All-tail P x (xs ++ ys) all)

-- the parts of a branch start at its own stop, or where one of them stops
parts_start : (limit b number : ℕ) (parent : Option ℕ) (start : Stop) (cuts : List Stop) → IsWithin limit start → All (StopsWithin limit) (parts limit b number parent start cuts)
    → All (StartsWithin limit) (parts limit b number parent start cuts)
parts_start limit b number parent start [] at stops =
    All-cons (StartsWithin limit) (record { branch = b; start = start; stop = At limit; parent = parent }) [] at (All-nil (StartsWithin limit))
parts_start limit b number parent start (cut ∷ cuts) at stops =
    let first : Segment = record { branch = b; start = start; stop = cut; parent = parent } in
    let rest = parts limit b (number + 1) (Some number) cut cuts in
    All-cons (StartsWithin limit) first rest at
    (parts_start limit b (number + 1) (Some number) cut cuts (All-head (StopsWithin limit) first rest stops) (All-tail (StopsWithin limit) first rest stops))

before_start : (bs : List Branch) (limit n : ℕ) → ((b : ℕ) → b < n → IsWithin limit (stop_at bs b)) → All (StopsWithin limit) (segments_before bs limit n)
    → All (StartsWithin limit) (segments_before bs limit n)
before_start bs limit zero at stops = All-nil (StartsWithin limit)
before_start bs limit (suc b) at stops =
    let xs = segments_before bs limit b in
    let ys = segments_of bs limit b in
    All-append (StartsWithin limit) xs ys
    (before_start bs limit b (λ c less. at c (omega arith)) (all_left (StopsWithin limit) xs ys stops))
    (parts_start limit b (count_before bs b) (origin_of bs b) (stop_at bs b) (cuts_of bs b) (at b (omega arith)) (all_right (StopsWithin limit) xs ys stops))

number_few : (limit : ℕ) (start : Stop) → IsWithin limit start → start_number start ≤ limit
number_few limit (At n) within = within
number_few limit (When w) within = omega arith

-- a segment's grid lies above a number within the limit
pub start_few : (p : Plan) (s : ℕ) → IsTree p.branches p.limit → s < length (segments_in p) → start_number (segment_at p s).start ≤ p.limit
start_few p s tree l =
    let stops = All-from_get_or (StopsWithin p.limit) (segments_in p) no_segment (λ i k. (planned-at p i tree k).within) in
    let starts = before_start p.branches p.limit (length p.branches) tree.limits stops in
    number_few p.limit (segment_at p s).start (All-get_or (StartsWithin p.limit) (segments_in p) s no_segment l starts)
