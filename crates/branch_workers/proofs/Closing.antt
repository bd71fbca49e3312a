-- What holds once all workers handed back what they have.
use Rattle.std.proofs.Common.{◌≡◌, ◌≢◌, ℕ, zero, suc, ◌<◌, ◌≤◌, max, All, Bool, true, false, true≢false, List, [], ◌∷◌, ◌++◌, Option, None, Some, IsSome, is_some, Vec, Global, length, map, replicate, set, sum_by, slice_get, take, ◌||◌, ⊎_elim, sym, refl, ap, ◌∙◌, subst, arith}
use Rattle.std.proofs.lemmas.List.{length-map, length-replicate, take_all, take_more}
use Rattle.std.proofs.lemmas.List.Sums.{sum_by-append, sum_by-cons}
use Rattle.std.proofs.lemmas.List.Elements.{All-nil, All-cons, All-head, All-tail}
use mathlib.Core.Logic.{dite}
use native.Mathlib.Decide.{ℕ_discrete}
use Rattle.branch_tree.specs.Segments.{segments_in}
use Rattle.shelf_core.specs.Plan.{same_key, is_in, place_in}
use Rattle.shelf_core.specs.Possible.{word_in, word_at}
use Rattle.shelf_core.specs.Views.{times}
use Rattle.shelf_core.specs.Words.{is_held, is_ready}
use Rattle.shelf_core.specs.After.{joined_with}
use Rattle.shelf_core.specs.Orderly.{Orderly, HasShape, IsLaid}
use Rattle.shelf_core.specs.Settled.{IsSettled, is_at_rest}
use Rattle.shelf_core.specs.declared.plan.Key.{Key}
use Rattle.shelf_core.specs.declared.plan.ShelfPlan.{ShelfPlan}
use Rattle.shelf_core.specs.declared.seat.SeatView.{SeatView}
use Rattle.shelf_core.specs.declared.system.System.{System}
use Rattle.shelf_core.specs.declared.words.ClaimWord.{ClaimWord}
use Rattle.shelf_core.specs.declared.words.ClaimWord.TheVariants.{Open, Taken}
use Rattle.shelf_core.specs.declared.words.PlaceWord.{PlaceWord}
use Rattle.shelf_core.specs.declared.words.PlaceWord.TheVariants.{Free, Writing, Ready, Lent}
use Rattle.shelf_core.proofs.Plans.{key_is, or_either}
use Rattle.shelf_core.proofs.Lists.{there, not_some, some_same, set_here, set_else, times_here, times_else, times_append}
use Rattle.checkpoint_shelf.specs.Plans.{PlanFits, KeyBelow}
use Rattle.checkpoint_shelf.specs.Told.{ShelfTold, SeatTold}
use Rattle.checkpoint_shelf.specs.Seats.{all_in}
use Rattle.kernel_copy.specs.declared.kept.Keep.{Keep}
use Rattle.kernel_copy.specs.declared.run.Outcome.{Outcome}
use Rattle.kernel_copy.specs.Segmentwise.{distinct}
use Rattle.kernel_copy.specs.Courses.{CourseTold}
use Rattle.kernel_copy.specs.Outcomes.{OutcomeTold, outcome_told, outcome_of, outcomes_before}
use Rattle.branch_workers.specs.Layout.{end_key, key_at}
use Rattle.branch_workers.specs.Runs.{IsShelfOf, HasAllStates}
use Rattle.branch_workers.specs.Workers.{own_of, HasFinished, HaveFinished, RanOnce}
use Rattle.branch_workers.specs.Order.{placed, placed_all}
use Rattle.branch_workers.proofs.Sums.{weighs_most, weighs_all, each_once}
use Rattle.branch_workers.proofs.Grids.{enough_places}
use Rattle.branch_workers.proofs.Joined.{joined_fact, added_up}
use Rattle.branch_workers.proofs.Standing.{own_distinct}

abbrev views_of : List (SeatTold CourseTold) → List SeatView
views_of seats = map (λ s. s.view) seats

-- the events of a worker's claims
abbrev events_of : CourseTold → SeatView → ℕ
events_of c v = sum_by (own_of c) v.claims

sum_map : (f : SeatView → ℕ) (seats : List (SeatTold CourseTold)) → sum_by f (views_of seats) ≡ sum_by (λ (s : SeatTold CourseTold). f s.view) seats
sum_map f [] = refl
sum_map f (s ∷ seats) = let r = sum_map f seats in let a = sum_by-cons f s.view (views_of seats) in let b = sum_by-cons (λ (x : SeatTold CourseTold). f x.view) s seats in omega arith

or_both : (b p q : Bool) → (p ≡ true → q ≡ true) → (b || p) ≡ true → (b || q) ≡ true
or_both true p q f e = refl
or_both false p q f e = f e

or_right : (b p : Bool) → p ≡ true → (b || p) ≡ true
or_right true p e = refl
or_right false p e = e

-- Keys in a list of two parts.
in_left : (key : Key) (xs ys : List Key) → is_in key xs ≡ true → is_in key (xs ++ ys) ≡ true
in_left key [] ys e = absurd (true≢false (sym e))
in_left key (x ∷ xs) ys e = or_both (same_key x key) (is_in key xs) (is_in key (xs ++ ys)) (in_left key xs ys) e

in_right : (key : Key) (xs ys : List Key) → is_in key ys ≡ true → is_in key (xs ++ ys) ≡ true
in_right key [] ys e = e
in_right key (x ∷ xs) ys e = or_right (same_key x key) (is_in key (xs ++ ys)) (in_right key xs ys e)

states_join : (c : CourseTold) (plan : ShelfPlan) (v w : SeatView) → HasAllStates c plan v → HasAllStates c plan w → HasAllStates c plan (joined_with w v)
states_join c plan v w hv hw s pos = dite (ℕ_discrete (times s v.claims) 0)
    (λ (z : times s v.claims ≡ 0).
    let t = times_append s v.claims w.claims in
    let e = hw s (omega arith) in record {
      parent = λ q is. in_right (end_key c.plan q) v.found w.found (e.parent q is);
      fork = λ l. in_right (end_key c.plan s) v.known w.known (e.fork l);
      grid = λ n there sole passed. in_right (key_at s n) v.known w.known (e.grid n there sole passed);
    })
    (λ (nz : times s v.claims ≢ 0).
    let e = hv s (omega arith) in record {
      parent = λ q is. in_left (end_key c.plan q) v.found w.found (e.parent q is);
      fork = λ l. in_left (end_key c.plan s) v.known w.known (e.fork l);
      grid = λ n there sole passed. in_left (key_at s n) v.known w.known (e.grid n there sole passed);
    })

-- A system is laid out for a plan with the course's segments.
pub record IsLaidFor (c : CourseTold) (plan : ShelfPlan) (s : System) : Type 0 where
  pub laid : s.plan ≡ Some plan
  pub segments : plan.segments ≡ length (segments_in c.plan)
  pub fits : PlanFits plan

-- Each key of a list is of one of so many segments, where all are.
key_below : (n : ℕ) (keys : List Key) (key : Key) → All (KeyBelow n) keys → is_in key keys ≡ true → key.segment < n
key_below n [] key all e = absurd (true≢false (sym e))
key_below n (k ∷ keys) key all e = ⊎_elim
    (λ (same : same_key k key ≡ true). subst (λ (x : Key). x.segment < n) (key_is k key same) (All-head (KeyBelow n) k keys all).0)
    (λ (rest : is_in key keys ≡ true). key_below n keys key (All-tail (KeyBelow n) k keys all) rest)
    (or_either (same_key k key) (is_in key keys) e)

-- Facts of each finished worker's view.
each_view : (c : CourseTold) (keep : Keep) (plan : ShelfPlan) (Fact : SeatView → Type 0) (of : (v : SeatView) (os : List Outcome) → HasFinished c keep plan v os → Fact v) (seats : List (SeatTold CourseTold)) (lists : List (List Outcome))
    → HaveFinished c keep plan seats lists → (i : ℕ) (v : SeatView) → slice_get (views_of seats) i ≡ Some v → Fact v
each_view c keep plan Fact of [] lists h i v e = absurd (not_some v e)
each_view c keep plan Fact of (s ∷ seats) [] h i v e = absurd h
each_view c keep plan Fact of (s ∷ seats) (os ∷ lists) h zero v e = subst Fact (some_same s.view v e) (of s.view os h.0)
each_view c keep plan Fact of (s ∷ seats) (os ∷ lists) h (suc i) v e = each_view c keep plan Fact of seats lists h.1 i v e

rest_ready : (key : Key) (o : Option PlaceWord) → is_held key o ≡ true → ((w : PlaceWord) → o ≡ Some w → is_at_rest w ≡ true) → is_ready key o ≡ true
rest_ready key None held rests = absurd (true≢false (sym held))
rest_ready key (Some Free) held rests = absurd (true≢false (sym held))
rest_ready key (Some (Writing n)) held rests = absurd (true≢false (sym held))
rest_ready key (Some (Ready k)) held rests = held
rest_ready key (Some (Lent k n)) held rests = absurd (true≢false (sym (rests (Lent k n) refl)))

word_rests : (s : System) (v : SeatView) (o : Option ℕ) (w : PlaceWord) → IsSettled s v → word_in s.places o ≡ Some w → is_at_rest w ≡ true
word_rests s v None w h e = absurd (not_some w e)
word_rests s v (Some p) w h e = h.places p w e

all_of_times : (n : ℕ) (xs : List ℕ) → ((g : ℕ) → 0 < times g xs → g < n) → All (λ g. g < n) xs
all_of_times n [] h = All-nil (λ g. g < n)
all_of_times n (x ∷ xs) h = All-cons (λ g. g < n) x xs
    (h x (let t = times_here x xs in omega arith))
    (all_of_times n xs (λ g pos. h g (dite (ℕ_discrete x g)
    (λ (one : x ≡ g). let t = ap (λ (y : ℕ). times g (y ∷ xs)) one ∙ times_here g xs in omega arith)
    (λ (ne : x ≢ g). let t = times_else g x xs ne in omega arith))))

module _ (c : CourseTold) (plan : ShelfPlan) (s : System) (v : SeatView) (h : Orderly s) (settled : IsSettled s v) (at : slice_get s.views 0 ≡ Some v) (laid : IsLaidFor c plan s) where
  as_many : length s.claims ≡ length (segments_in c.plan)
  as_many = let shape : IsLaid plan s = subst (λ (o : Option ShelfPlan). HasShape o s) laid.laid h.shape in shape.claims ∙ laid.segments

  claims_below : All (λ g. g < length (segments_in c.plan)) v.claims
  claims_below = all_of_times (length (segments_in c.plan)) v.claims (λ g pos. let l = h.segments 0 v at g pos in let m = as_many in omega arith)

  -- A segment's word, and how often it stands in the claims.
  word_of : (g : ℕ) → g < length (segments_in c.plan) → (word : ClaimWord) × (slice_get s.claims g ≡ Some word)
  word_of g l = there s.claims g (let m = as_many in omega arith)

  word_times : (g : ℕ) (word : ClaimWord) → slice_get s.claims g ≡ Some word → times g v.claims ≤ 1
  word_times g Open e = let t : times g v.claims ≡ 0 = h.sound.claims.claimed g Open e 0 v at in omega arith
  word_times g (Taken n) e = let t = settled.claims g n e in omega arith

  claims_once : (g : ℕ) → g < length (segments_in c.plan) → times g v.claims ≤ 1
  claims_once g l = let w = word_of g l in word_times g w.0 w.1

  -- The claims have at most the events of all segments.
  pub claims_most : events_of c v ≤ distinct c.opening c.plan
  claims_most =
      let m = weighs_most (own_of c) (length (segments_in c.plan)) v.claims claims_below claims_once in let d = own_distinct c in omega arith

  module _ (done : length (segments_in c.plan) ≤ v.done_seen) (states : HasAllStates c plan v) where
    many : length (segments_in c.plan) ≤ length v.claims
    many = let a = h.sound.seen.number 0 v at in let b = settled.done in let e = h.sound.counts.within 0 v at in omega arith

    pub claimed_once : (g : ℕ) → g < length (segments_in c.plan) → times g v.claims ≡ 1
    claimed_once = each_once (length (segments_in c.plan)) v.claims claims_below claims_once many

    pub claims_all : events_of c v ≡ distinct c.opening c.plan
    claims_all = weighs_all (own_of c) (length (segments_in c.plan)) v.claims claims_below claimed_once ∙ own_distinct c

    taker_of : (g : ℕ) (word : ClaimWord) → times g v.claims ≡ 1 → slice_get s.claims g ≡ Some word → (n : ℕ) × (slice_get s.claims g ≡ Some (Taken n)) × (n < length s.views)
    taker_of g Open one e = let t : times g v.claims ≡ 0 = h.sound.claims.claimed g Open e 0 v at in absurd (omega arith)
    taker_of g (Taken n) one e = (n, e, h.sound.claims.takers g (Taken n) e)

    -- What the seat knows stands on its place.
    stands : (key : Key) → is_in key v.known ≡ true → is_ready key (word_at s key) ≡ true
    stands key known =
        let kept = h.sound.known 0 v at key known in
        rest_ready key (word_at s key) kept.there (λ w e. word_rests s v (place_in s.plan key) w settled e)

    grid_segment : (g e : ℕ) → is_in (key_at g e) plan.grid ≡ true → g < length (segments_in c.plan)
    grid_segment g e there = let b = key_below plan.segments plan.grid (key_at g e) laid.fits.grid there in let n = laid.segments in omega arith

    pub ran_once : (workers : ℕ) → length s.views ≡ workers → RanOnce c plan workers s
    ran_once workers count = record {
      laid = laid.laid;
      view = v;
      there = at;
      below = claims_below;
      claimed = claimed_once;
      takers = λ g l. let w = word_of g l in let t = taker_of g w.0 (claimed_once g l) w.1 in (t.0, t.1, (let m = t.2 in omega arith));
      states = states;
      forks = λ g l u. stands (end_key c.plan g) ((states g (let one = claimed_once g l in omega arith)).fork u);
      grid = λ g e there sole passed. stands (key_at g e) ((states g (let one = claimed_once g (grid_segment g e there) in omega arith)).grid e there sole passed);
      alone = λ many g e there. enough_places plan (key_at g e) many there;
    }

-- Outcomes in slots.

-- The slot of each of these segments has its outcome.
abbrev Good : CourseTold → Keep → List (Option Outcome) → List ℕ → Type 0
Good c keep slots done = (g : ℕ) → 0 < times g done → (o : Outcome) × (slice_get slots g ≡ Some (Some o)) × (outcome_told o ≡ outcome_of c keep g)

abbrev segments_of : List Outcome → List ℕ
segments_of os = map (λ (o : Outcome). o.segment) os

pub length_placed : (slots : List (Option Outcome)) (os : List Outcome) → length (placed slots os) ≡ length slots
length_placed slots [] = refl
length_placed slots (o ∷ os) = length_placed (set slots o.segment (Some o)) os ∙ Rattle.std.proofs.lemmas.List.length-set slots o.segment (Some o)

good_more : (c : CourseTold) (keep : Keep) (slots : List (Option Outcome)) (done : List ℕ) (o : Outcome) → o.segment < length slots → outcome_told o ≡ outcome_of c keep o.segment → Good c keep slots done
    → Good c keep (set slots o.segment (Some o)) (done ++ o.segment ∷ [])
good_more c keep slots done o l told good g pos = dite (ℕ_discrete g o.segment)
    (λ (one : g ≡ o.segment).
    let was = there slots o.segment l in
    (o, ap (λ (i : ℕ). slice_get (set slots o.segment (Some o)) i) one ∙ set_here slots o.segment (Some o) was.0 was.1, told ∙ ap (λ (i : ℕ). outcome_of c keep i) (sym one)))
    (λ (ne : g ≢ o.segment).
    let t = times_append g done (o.segment ∷ []) in
    let z = times_else g o.segment [] (λ e. ne (sym e)) in
    let was = good g (omega arith) in
    (was.0, set_else slots o.segment g (Some o) ne ∙ was.1, was.2))

good_all : (c : CourseTold) (keep : Keep) (slots : List (Option Outcome)) (done : List ℕ) (os : List Outcome) → All (λ (o : Outcome). o.segment < length slots) os → All (λ (o : Outcome). outcome_told o ≡ outcome_of c keep o.segment) os
    → Good c keep slots done → Good c keep (placed slots os) (done ++ segments_of os)
good_all c keep slots done [] below told good = λ g pos. good g (let t = times_append g done [] in omega arith)
good_all c keep slots done (o ∷ os) below told good =
    let one = good_more c keep slots done o (All-head (λ (x : Outcome). x.segment < length slots) o os below) (All-head (λ (x : Outcome). outcome_told x ≡ outcome_of c keep x.segment) o os told) good in
    let long = Rattle.std.proofs.lemmas.List.length-set slots o.segment (Some o) in
    let rest = good_all c keep (set slots o.segment (Some o)) (done ++ o.segment ∷ []) os
    (Rattle.std.proofs.lemmas.List.Elements.All-weaker (λ (x : Outcome). x.segment < length slots) (λ (x : Outcome). x.segment < length (set slots o.segment (Some o))) (λ x l. omega arith) os (All-tail (λ (x : Outcome). x.segment < length slots) o os below))
    (All-tail (λ (x : Outcome). outcome_told x ≡ outcome_of c keep x.segment) o os told) one in
    λ g pos. rest g (
    let a = times_append g (done ++ o.segment ∷ []) (segments_of os) in let b = times_append g done (o.segment ∷ []) in
    let d = times_append g done (segments_of (o ∷ os)) in let e = times_append g (o.segment ∷ []) (segments_of os) in omega arith)

-- the segments of all these outcomes
abbrev flat : List (List Outcome) → List ℕ
flat [] = []
flat (os ∷ lists) = segments_of os ++ flat lists

good_lists : (c : CourseTold) (keep : Keep) (plan : ShelfPlan) (slots : List (Option Outcome)) (done : List ℕ) (seats : List (SeatTold CourseTold)) (lists : List (List Outcome)) → HaveFinished c keep plan seats lists
    → All (λ (os : List Outcome). All (λ (o : Outcome). o.segment < length slots) os) lists → Good c keep slots done → Good c keep (placed_all slots lists) (done ++ flat lists)
good_lists c keep plan slots done [] [] h below good = λ g pos. good g (let t = times_append g done [] in omega arith)
good_lists c keep plan slots done [] (os ∷ lists) h below good = absurd h
good_lists c keep plan slots done (s ∷ seats) [] h below good = absurd h
good_lists c keep plan slots done (s ∷ seats) (os ∷ lists) h below good =
    let one = good_all c keep slots done os (All-head (λ (xs : List Outcome). All (λ (o : Outcome). o.segment < length slots) xs) os lists below) h.0.told good in
    let long = length_placed slots os in
    let rest = good_lists c keep plan (placed slots os) (done ++ segments_of os) seats lists h.1
    (Rattle.std.proofs.lemmas.List.Elements.All-weaker (λ (xs : List Outcome). All (λ (o : Outcome). o.segment < length slots) xs) (λ (xs : List Outcome). All (λ (o : Outcome). o.segment < length (placed slots os)) xs)
    (λ xs a. Rattle.std.proofs.lemmas.List.Elements.All-weaker (λ (x : Outcome). x.segment < length slots) (λ (x : Outcome). x.segment < length (placed slots os)) (λ x l. omega arith) xs a) lists (All-tail (λ (xs : List Outcome). All (λ (o : Outcome). o.segment < length slots) xs) os lists below)) one in
    λ g pos. rest g (
    let a = times_append g (done ++ segments_of os) (flat lists) in let b = times_append g done (segments_of os) in
    let d = times_append g done (flat (os ∷ lists)) in let e = times_append g (segments_of os) (flat lists) in omega arith)

flat_times : (c : CourseTold) (keep : Keep) (plan : ShelfPlan) (g : ℕ) (seats : List (SeatTold CourseTold)) (lists : List (List Outcome)) → HaveFinished c keep plan seats lists → times g (flat lists) ≡ sum_by (λ (v : SeatView). times g v.claims) (views_of seats)
flat_times c keep plan g [] [] h = refl
flat_times c keep plan g [] (os ∷ lists) h = absurd h
flat_times c keep plan g (s ∷ seats) [] h = absurd h
flat_times c keep plan g (s ∷ seats) (os ∷ lists) h =
    let r = flat_times c keep plan g seats lists h.1 in let a = times_append g (segments_of os) (flat lists) in
    let e = ap (λ (xs : List ℕ). times g xs) h.0.segments in let b = sum_by-cons (λ (v : SeatView). times g v.claims) s.view (views_of seats) in omega arith

-- Each worker's outcomes are of segments of the plan.
pub lists_below : (c : CourseTold) (keep : Keep) (plan : ShelfPlan) (n : ℕ) (seats : List (SeatTold CourseTold)) (lists : List (List Outcome)) → HaveFinished c keep plan seats lists
    → n ≡ length (segments_in c.plan) → All (λ (os : List Outcome). All (λ (o : Outcome). o.segment < n) os) lists
lists_below c keep plan n [] [] h is = All-nil (λ (xs : List Outcome). All (λ (o : Outcome). o.segment < n) xs)
lists_below c keep plan n [] (os ∷ lists) h is = absurd h
lists_below c keep plan n (s ∷ seats) [] h is = absurd h
lists_below c keep plan n (s ∷ seats) (os ∷ lists) h is = All-cons (λ (xs : List Outcome). All (λ (o : Outcome). o.segment < n) xs) os lists
    (unmapped os (subst (λ (xs : List ℕ). All (λ g. g < n) xs) (sym h.0.segments) (subst (λ (m : ℕ). All (λ g. g < m) s.view.claims) (sym is) h.0.below)))
    (lists_below c keep plan n seats lists h.1 is)
  where
    unmapped : (xs : List Outcome) → All (λ g. g < n) (segments_of xs) → All (λ (o : Outcome). o.segment < n) xs
    unmapped [] a = All-nil (λ (o : Outcome). o.segment < n)
    unmapped (x ∷ xs) a = All-cons (λ (o : Outcome). o.segment < n) x xs (All-head (λ (g : ℕ). g < n) x.segment (segments_of xs) a) (unmapped xs (All-tail (λ (g : ℕ). g < n) x.segment (segments_of xs) a))

pub length_placed_all : (slots : List (Option Outcome)) (lists : List (List Outcome)) → length (placed_all slots lists) ≡ length slots
length_placed_all slots [] = refl
length_placed_all slots (os ∷ lists) = length_placed_all (placed slots os) lists ∙ length_placed slots os

some_slots : (slots : List (Option Outcome)) → ((g : ℕ) → g < length slots → (o : Outcome) × (slice_get slots g ≡ Some (Some o))) → All (λ (x : Option Outcome). IsSome x) slots
some_slots [] h = All-nil (λ (y : Option Outcome). IsSome y)
some_slots (x ∷ slots) h = let a = h 0 (omega arith) in All-cons (λ (y : Option Outcome). IsSome y) x slots (is x a.0 (some_same x (Some a.0) a.1)) (some_slots slots (λ g l. h (suc g) (omega arith)))
  where
    is : (y : Option Outcome) (o : Outcome) → y ≡ Some o → IsSome y
    is y o e = ap (λ (z : Option Outcome). is_some z) e

some_at : (list : List Outcome) (g : ℕ) (o : Outcome) → slice_get (map (λ (x : Outcome). Some x) list) g ≡ Some (Some o) → slice_get list g ≡ Some o
some_at [] g o e = absurd (not_some (Some o) e)
some_at (x ∷ list) zero o e = some_same (Some x) (Some o) e
some_at (x ∷ list) (suc g) o e = some_at list g o e

take_one : (xs : List Outcome) (k : ℕ) (o : Outcome) → slice_get xs k ≡ Some o → take (suc k) xs ≡ take k xs ++ o ∷ []
take_one [] k o e = absurd (not_some o e)
take_one (x ∷ xs) zero o e = ap (λ (y : Outcome). y ∷ []) (some_same x o e)
take_one (x ∷ xs) (suc k) o e = ap (λ (ys : List Outcome). x ∷ ys) (take_one xs k o e)

-- Outcomes that stand in the slots of their segments are those of the segments in order.
told_in_order : (c : CourseTold) (keep : Keep) (list : List Outcome) → ((g : ℕ) → g < length list → (o : Outcome) × (slice_get list g ≡ Some o) × (outcome_told o ≡ outcome_of c keep g)) → map outcome_told list ≡ outcomes_before c keep (length list)
told_in_order c keep list each = ap (λ (xs : List Outcome). map outcome_told xs) (sym (take_all (length list) list (omega arith))) ∙ upto_here (length list) (omega arith)
  where
    upto_here : (k : ℕ) → k ≤ length list → map outcome_told (take k list) ≡ outcomes_before c keep k
    upto_here zero l = refl
    upto_here (suc k) l =
        let here = each k (omega arith) in
        ap (λ (xs : List Outcome). map outcome_told xs) (take_one list k here.0 here.1)
        ∙ Rattle.std.proofs.lemmas.List.map-append outcome_told (take k list) (here.0 ∷ [])
        ∙ ap (λ (xs : List OutcomeTold). xs ++ outcome_told here.0 ∷ []) (upto_here k (omega arith))
        ∙ ap (λ (x : OutcomeTold). outcomes_before c keep k ++ x ∷ []) here.2

-- All workers finished: what their joined view has, and what their outcomes tell.
module _ (c : CourseTold) (plan : ShelfPlan) (s : System) (first : SeatTold CourseTold) (seats : List (SeatTold CourseTold)) (lists : List (List Outcome)) (h : Orderly s)
    (settled : IsSettled s (all_in (views_of (first ∷ seats)))) (at : slice_get s.views 0 ≡ Some (all_in (views_of (first ∷ seats)))) (laid : IsLaidFor c plan s) where
  joined : SeatView
  joined = all_in (views_of (first ∷ seats))

  events_sum : events_of c (all_in (views_of (first ∷ seats))) ≡ sum_by (λ (x : SeatTold CourseTold). events_of c x.view) (first ∷ seats)
  events_sum = added_up (λ v. events_of c v) (λ v w. sum_by-append (own_of c) v.claims w.claims) first.view (views_of seats) ∙ sum_map (λ v. events_of c v) (first ∷ seats)

  pub all_most : sum_by (λ (x : SeatTold CourseTold). sum_by (own_of c) x.view.claims) (first ∷ seats) ≤ distinct c.opening c.plan
  all_most = let m = claims_most c plan s (all_in (views_of (first ∷ seats))) h settled at laid in let e = events_sum in omega arith

  module _ (keep : Keep) (fin : HaveFinished c keep plan (first ∷ seats) lists) where
    all_states : HasAllStates c plan (all_in (views_of (first ∷ seats)))
    all_states = joined_fact (λ v. HasAllStates c plan v) (states_join c plan) first.view (views_of seats) (each_view c keep plan (λ v. HasAllStates c plan v) (λ v os f. f.states) (first ∷ seats) lists fin)

    all_done : length (segments_in c.plan) ≤ (all_in (views_of (first ∷ seats))).done_seen
    all_done = joined_fact (λ v. length (segments_in c.plan) ≤ v.done_seen) (λ v w a b. max_more (length (segments_in c.plan)) v.done_seen w.done_seen a) first.view (views_of seats)
        (each_view c keep plan (λ v. length (segments_in c.plan) ≤ v.done_seen) (λ v os f. f.done) (first ∷ seats) lists fin)
      where
        max_more : (n a b : ℕ) → n ≤ a → n ≤ max a b
        max_more n a b l = omega (arith, l)

    pub all_ran : (workers : ℕ) → length s.views ≡ workers → RanOnce c plan workers s
    all_ran workers count = ran_once c plan s (all_in (views_of (first ∷ seats))) h settled at laid all_done all_states workers count

    pub all_events : sum_by (λ (x : SeatTold CourseTold). sum_by (own_of c) x.view.claims) (first ∷ seats) ≡ distinct c.opening c.plan
    all_events = sym events_sum ∙ claims_all c plan s (all_in (views_of (first ∷ seats))) h settled at laid all_done all_states

    flat_once : (g : ℕ) → g < length (segments_in c.plan) → times g (flat lists) ≡ 1
    flat_once g l = flat_times c keep plan g (first ∷ seats) lists fin ∙ sym (added_up (λ v. times g v.claims) (λ v w. times_append g v.claims w.claims) first.view (views_of seats))
        ∙ claimed_once c plan s (all_in (views_of (first ∷ seats))) h settled at laid all_done all_states g l

    module _ (slots : List (Option Outcome)) (empty : slots ≡ replicate (length (segments_in c.plan)) None) where
      long : length slots ≡ length (segments_in c.plan)
      long = ap (λ (xs : List (Option Outcome)). length xs) empty ∙ length-replicate (length (segments_in c.plan)) None

      pub all_below : All (λ (os : List Outcome). All (λ (o : Outcome). o.segment < length slots) os) lists
      all_below = lists_below c keep plan (length slots) (first ∷ seats) lists fin long

      slot_told : (g : ℕ) → g < length (segments_in c.plan) → (o : Outcome) × (slice_get (placed_all slots lists) g ≡ Some (Some o)) × (outcome_told o ≡ outcome_of c keep g)
      slot_told g l = good_lists c keep plan slots [] (first ∷ seats) lists fin all_below (λ i pos. absurd (none i pos)) g (let o = flat_once g l in omega arith)
        where
          none : (i : ℕ) → 0 < times i [] → ⊥
          none i pos = absurd (omega arith)

      pub all_some : All (λ (x : Option Outcome). IsSome x) (placed_all slots lists)
      all_some = some_slots (placed_all slots lists) (λ g l. let a = slot_told g (let m = length_placed_all slots lists in let n = long in omega arith) in (a.0, a.1))

      pub all_told : (list : List Outcome) → map (λ (x : Outcome). Some x) list ≡ placed_all slots lists → map outcome_told list ≡ outcomes_before c keep (length (segments_in c.plan))
      all_told list is =
          let n = length-map list (λ (x : Outcome). Some x) in let m = length_placed_all slots lists in let k = long in
          let e = ap (λ (xs : List (Option Outcome)). length xs) is in
          let same : length list ≡ length (segments_in c.plan) = omega arith in
          told_in_order c keep list (λ g l. let a = slot_told g (omega arith) in (a.0, some_at list g a.0 (ap (λ (xs : List (Option Outcome)). slice_get xs g) is ∙ a.1), a.2))
          ∙ ap (λ (k : ℕ). outcomes_before c keep k) same

-- A system in which the first of some seats took in all others.
pub record AreJoined (c : CourseTold) (plan : ShelfPlan) (s : System) (seats : List (SeatTold CourseTold)) : Type 0 where
  pub some : 0 < length seats
  pub orderly : Orderly s
  pub settled : IsSettled s (all_in (views_of seats))
  pub at : slice_get s.views 0 ≡ Some (all_in (views_of seats))
  pub laid : IsLaidFor c plan s

-- So it is of seats that a shelf took back and closed.
pub are_joined : (c : CourseTold) (stride : ℕ) (shelf : ShelfTold CourseTold) (s : System) (seats : List (SeatTold CourseTold)) (spent : List SeatView) → IsShelfOf c stride shelf → PlanFits shelf.plan → 0 < length seats
    → s.plan ≡ Some shelf.plan → Orderly s → IsSettled s (all_in (views_of seats)) → s.views ≡ all_in (views_of seats) ∷ spent → AreJoined c shelf.plan s seats
are_joined c stride shelf s seats spent is fits some plan orderly settled views = record {
  some = some;
  orderly = orderly;
  settled = settled;
  at = ap (λ (vs : List SeatView). slice_get vs 0) views;
  laid = record { laid = plan; segments = is.segments; fits = fits };
}

module _ (c : CourseTold) (plan : ShelfPlan) (s : System) where
  pub most_of : (seats : List (SeatTold CourseTold)) → AreJoined c plan s seats → sum_by (λ (x : SeatTold CourseTold). sum_by (own_of c) x.view.claims) seats ≤ distinct c.opening c.plan
  most_of [] j = let l = j.some in absurd (omega arith)
  most_of (first ∷ rest) j = all_most c plan s first rest [] j.orderly j.settled j.at j.laid

  pub events_of_all : (keep : Keep) (seats : List (SeatTold CourseTold)) (lists : List (List Outcome)) → AreJoined c plan s seats → HaveFinished c keep plan seats lists
      → sum_by (λ (x : SeatTold CourseTold). sum_by (own_of c) x.view.claims) seats ≡ distinct c.opening c.plan
  events_of_all keep [] lists j fin = let l = j.some in absurd (omega arith)
  events_of_all keep (first ∷ rest) lists j fin = all_events c plan s first rest lists j.orderly j.settled j.at j.laid keep fin

  pub ran_of_all : (keep : Keep) (seats : List (SeatTold CourseTold)) (lists : List (List Outcome)) → AreJoined c plan s seats → HaveFinished c keep plan seats lists → (workers : ℕ) → length s.views ≡ workers → RanOnce c plan workers s
  ran_of_all keep [] lists j fin workers count = let l = j.some in absurd (omega arith)
  ran_of_all keep (first ∷ rest) lists j fin workers count = all_ran c plan s first rest lists j.orderly j.settled j.at j.laid keep fin workers count

  pub some_of_all : (keep : Keep) (seats : List (SeatTold CourseTold)) (lists : List (List Outcome)) → AreJoined c plan s seats → HaveFinished c keep plan seats lists → (slots : List (Option Outcome))
      → slots ≡ replicate (length (segments_in c.plan)) None → All (λ (x : Option Outcome). IsSome x) (placed_all slots lists)
  some_of_all keep [] lists j fin slots empty = let l = j.some in absurd (omega arith)
  some_of_all keep (first ∷ rest) lists j fin slots empty = all_some c plan s first rest lists j.orderly j.settled j.at j.laid keep fin slots empty

  pub told_of_all : (keep : Keep) (seats : List (SeatTold CourseTold)) (lists : List (List Outcome)) → AreJoined c plan s seats → HaveFinished c keep plan seats lists → (slots : List (Option Outcome))
      → slots ≡ replicate (length (segments_in c.plan)) None → (list : List Outcome) → map (λ (x : Outcome). Some x) list ≡ placed_all slots lists → map outcome_told list ≡ outcomes_before c keep (length (segments_in c.plan))
  told_of_all keep [] lists j fin slots empty list is = let l = j.some in absurd (omega arith)
  told_of_all keep (first ∷ rest) lists j fin slots empty list is = all_told c plan s first rest lists j.orderly j.settled j.at j.laid keep fin slots empty list is

-- One outcome more is placed.
pub placed_more : (slots : List (Option Outcome)) (os : List Outcome) (o : Outcome) → placed slots (os ++ o ∷ []) ≡ set (placed slots os) o.segment (Some o)
placed_more slots [] o = refl
placed_more slots (x ∷ os) o = placed_more (set slots x.segment (Some x)) os o

pub placed_all_more : (slots : List (Option Outcome)) (lists : List (List Outcome)) (os : List Outcome) → placed_all slots (lists ++ os ∷ []) ≡ placed (placed_all slots lists) os
placed_all_more slots [] os = refl
placed_all_more slots (xs ∷ lists) os = placed_all_more (placed slots xs) lists os

pub all_from_map : {X Y : Type 0} (P : X → Type 0) (f : Y → X) (ys : List Y) → All P (map f ys) → All (λ y. P (f y)) ys
all_from_map P f [] a = All-nil (λ y. P (f y))
all_from_map P f (y ∷ ys) a = All-cons (λ z. P (f z)) y ys (All-head P (f y) (map f ys) a) (all_from_map P f ys (All-tail P (f y) (map f ys) a))

pub vectors_below : (c : CourseTold) (keep : Keep) (plan : ShelfPlan) (n : ℕ) (seats : List (SeatTold CourseTold)) (vs : List (Vec Outcome Global)) → HaveFinished c keep plan seats (map (λ v. v.items) vs)
    → n ≡ length (segments_in c.plan) → All (λ v. All (λ (o : Outcome). o.segment < n) v.items) vs
vectors_below c keep plan n seats vs fin is =
    all_from_map (λ (os : List Outcome). All (λ (o : Outcome). o.segment < n) os) (λ (v : Vec Outcome Global). v.items) vs (lists_below c keep plan n seats (map (λ (v : Vec Outcome Global). v.items) vs) fin is)
