-- The keys of the grid.
use Rattle.std.proofs.Common.{◌≡◌, ◌≢◌, ℕ, nat_lt, ne_eqb, slice_get, zero, suc, ◌+◌, ◌-◌, ◌%◌, ◌<◌, ◌≤◌, ◌==◌, All, Bool, true, false, true≢false, List, [], ◌∷◌, ◌++◌, Option, Some, None, length, get_or, is_some, ◌||◌, ◌&&◌, not, if◌then◌else◌, sym, refl, ap, ◌∙◌, subst, ⊎_elim, ◌⊎◌, arith}
use Rattle.std.proofs.Math.Nat.{mod-eq_of_lt}
use Rattle.std.proofs.lemmas.List.Elements.{All-cons, All-nil}
use Rattle.std.proofs.lemmas.List.Folds.{list_any-append}
use Rattle.std.specs.List.{list_all}
use Rattle.branch_tree.specs.declared.segment.Segment.{Segment}
use Rattle.branch_tree.specs.declared.stop.Stop.{Stop}
use Rattle.branch_tree.specs.declared.stop.Stop.TheVariants.{At, When}
use Rattle.branch_tree.specs.Plan.{Plan}
use Rattle.branch_tree.specs.Segments.{segments_in, segment_at, no_segment, last_of}
use Rattle.shelf_core.specs.Plan.{same_key, is_in, is_before, are_distinct, rise, index_of, fork_or_grid, place_of, is_at, has_alone, is_sole}
use Rattle.shelf_core.specs.declared.plan.Key.{Key}
use Rattle.shelf_core.specs.declared.plan.ShelfPlan.{ShelfPlan}
use Rattle.shelf_core.proofs.Lists.{bool_cases, some_same, not_some, within}
use Rattle.shelf_core.proofs.Plans.{and_left, and_right, and_both, or_either, eq_true, key_is, key_self, in_has_index, index_found, place_cases, fork_place, distinct_append}
use Rattle.shelf_core.proofs.Rising.{before_self}
use Rattle.checkpoint_shelf.specs.Plans.{KeyBelow}
use Rattle.kernel_copy.specs.Segmentwise.{fork_number}
use Rattle.branch_workers.specs.Layout.{forks_from, fork_keys, key_at, multiples_from, start_number, stop_number, grid_of, grids_from, grid_keys}

or_left : (a b : Bool) → a ≡ true → (a || b) ≡ true
or_left true b e = refl
or_left false b e = absurd (true≢false (sym e))

or_right : (a b : Bool) → b ≡ true → (a || b) ≡ true
or_right true b e = refl
or_right false b e = e

-- What holds of each key that stands in a list.
all_of : (test : Key → Bool) (keys : List Key) → ((k : Key) → is_in k keys ≡ true → test k ≡ true) → list_all test keys ≡ true
all_of test [] h = refl
all_of test (x ∷ keys) h = and_both (test x) (list_all test keys)
    (h x (or_left (same_key x x) (is_in x keys) (key_self x)))
    (all_of test keys (λ k e. h k (or_right (same_key x k) (is_in k keys) e)))

All_of : (P : Key → Type 0) (keys : List Key) → ((k : Key) → is_in k keys ≡ true → P k) → All P keys
All_of P [] h = All-nil P
All_of P (x ∷ keys) h = All-cons P x keys
    (h x (or_left (same_key x x) (is_in x keys) (key_self x)))
    (All_of P keys (λ k e. h k (or_right (same_key x k) (is_in k keys) e)))

-- Keys in a list of two parts.
in_either : (key : Key) (xs ys : List Key) → is_in key (xs ++ ys) ≡ true → (is_in key xs ≡ true) ⊎ (is_in key ys ≡ true)
in_either key xs ys e = or_either (is_in key xs) (is_in key ys) (sym (list_any-append (λ k. same_key k key) xs ys) ∙ e)

-- A list that rises, and one behind it whose keys come later.
rise_append : (xs ys : List Key) → rise xs ≡ true → rise ys ≡ true → ((a b : Key) → is_in a xs ≡ true → is_in b ys ≡ true → is_before a b ≡ true) → rise (xs ++ ys) ≡ true
rise_append [] ys r q h = q
rise_append (x ∷ xs) ys r q h = and_both (list_all (λ k. is_before x k) (xs ++ ys)) (rise (xs ++ ys))
    (all_of (λ k. is_before x k) (xs ++ ys) (λ k e. ⊎_elim
    (λ (l : is_in k xs ≡ true). before k xs (and_left (list_all (λ k. is_before x k) xs) (rise xs) r) l)
    (λ (y : is_in k ys ≡ true). h x k (or_left (same_key x x) (is_in x xs) (key_self x)) y)
    (in_either k xs ys e)))
    (rise_append xs ys (and_right (list_all (λ k. is_before x k) xs) (rise xs) r) q (λ a b e f. h a b (or_right (same_key x a) (is_in a xs) e) f))
  where
    before : (k : Key) (zs : List Key) → list_all (λ j. is_before x j) zs ≡ true → is_in k zs ≡ true → is_before x k ≡ true
    before k [] all e = absurd (true≢false (sym e))
    before k (z ∷ zs) all e = ⊎_elim
        (λ (same : same_key z k ≡ true). subst (λ (j : Key). is_before x j ≡ true) (key_is z k same) (and_left (is_before x z) (list_all (λ j. is_before x j) zs) all))
        (λ (rest : is_in k zs ≡ true). before k zs (and_right (is_before x z) (list_all (λ j. is_before x j) zs) all) rest)
        (or_either (same_key z k) (is_in k zs) e)

-- No key stands twice in a list that rises.
rise_distinct : (keys : List Key) → rise keys ≡ true → are_distinct keys ≡ true
rise_distinct [] r = refl
rise_distinct (x ∷ keys) r = and_both (not (is_in x keys)) (are_distinct keys)
    (none (is_in x keys) (λ e. away keys (and_left (list_all (λ k. is_before x k) keys) (rise keys) r) e))
    (rise_distinct keys (and_right (list_all (λ k. is_before x k) keys) (rise keys) r))
  where
    none : (b : Bool) → (b ≡ true → ⊥) → not b ≡ true
    none true h = absurd (h refl)
    none false h = refl

    away : (zs : List Key) → list_all (λ j. is_before x j) zs ≡ true → is_in x zs ≡ true → ⊥
    away [] all e = true≢false (sym e)
    away (z ∷ zs) all e = ⊎_elim
        (λ (same : same_key z x ≡ true). let b = and_left (is_before x z) (list_all (λ j. is_before x j) zs) all in
        true≢false (sym b ∙ ap (λ (j : Key). is_before x j) (key_is z x same) ∙ before_self x))
        (λ (rest : is_in x zs ≡ true). away zs (and_right (is_before x z) (list_all (λ j. is_before x j) zs) all) rest)
        (or_either (same_key z x) (is_in x zs) e)

-- A list with or without one more in front.
abbrev with_key : Bool → Key → List Key → List Key
with_key b x keys = if b then x ∷ keys else keys

-- A multiple of the stride in a segment, among so many numbers from this one on.
pub record IsMultiple (stride s first n : ℕ) (key : Key) : Type 0 where
  pub segment : key.segment ≡ s
  pub from : first ≤ key.event
  pub below : key.event < first + n
  pub divides : key.event % stride ≡ 0

pub in_multiples : (stride s e n : ℕ) (key : Key) → is_in key (multiples_from stride s e n) ≡ true → IsMultiple stride s e n key
in_multiples stride s e zero key h = absurd (true≢false (sym h))
in_multiples stride s e (suc n) key h = more (in_multiples stride s (e + 1) n key) (e % stride == 0) refl h
  where
    later : IsMultiple stride s (e + 1) n key → IsMultiple stride s e (suc n) key
    later m = let f = m.from in let b = m.below in record { segment = m.segment; from = omega arith; below = omega arith; divides = m.divides }

    here : e % stride ≡ 0 → key_at s e ≡ key → IsMultiple stride s e (suc n) key
    here d is = subst (λ (k : Key). IsMultiple stride s e (suc n) k) is (record { segment = refl; from = omega arith; below = omega arith; divides = d })

    more : (is_in key (multiples_from stride s (e + 1) n) ≡ true → IsMultiple stride s (e + 1) n key) → (b : Bool) → (e % stride == 0) ≡ b
        → is_in key (with_key b (key_at s e) (multiples_from stride s (e + 1) n)) ≡ true → IsMultiple stride s e (suc n) key
    more rec false t x = later (rec x)
    more rec true t x = ⊎_elim
        (λ (same : same_key (key_at s e) key ≡ true). here (eq_true (e % stride) 0 t) (key_is (key_at s e) key same))
        (λ (rest : is_in key (multiples_from stride s (e + 1) n) ≡ true). later (rec rest))
        (or_either (same_key (key_at s e) key) (is_in key (multiples_from stride s (e + 1) n)) x)

multiples_rise : (stride s e n : ℕ) → rise (multiples_from stride s e n) ≡ true
multiples_rise stride s e zero = refl
multiples_rise stride s e (suc n) = more (multiples_rise stride s (e + 1) n) (e % stride == 0)
  where
    after : (k : Key) → is_in k (multiples_from stride s (e + 1) n) ≡ true → is_before (key_at s e) k ≡ true
    after k h = let m = in_multiples stride s (e + 1) n k h in later_event s e k m.segment (let f = m.from in omega arith)
      where
        later_event : (s e : ℕ) (k : Key) → k.segment ≡ s → e < k.event → is_before (key_at s e) k ≡ true
        later_event s e k same less = grind (arith, same, less)

    more : rise (multiples_from stride s (e + 1) n) ≡ true → (b : Bool) → rise (with_key b (key_at s e) (multiples_from stride s (e + 1) n)) ≡ true
    more rec false = rec
    more rec true = and_both (list_all (λ k. is_before (key_at s e) k) (multiples_from stride s (e + 1) n)) (rise (multiples_from stride s (e + 1) n))
        (all_of (λ k. is_before (key_at s e) k) (multiples_from stride s (e + 1) n) after) rec

-- A key of the grids of segments from a number on.
pub record IsOfGrids (limit stride s : ℕ) (gs : List Segment) (key : Key) : Type 0 where
  pub index : ℕ
  pub segment : key.segment ≡ s + index
  pub within : index < length gs
  pub from : start_number (get_or gs index no_segment).start < key.event
  pub below : key.event < stop_number limit (get_or gs index no_segment).stop
  pub divides : key.event % stride ≡ 0

pub in_grids : (limit stride s : ℕ) (gs : List Segment) (key : Key) → is_in key (grids_from limit stride s gs) ≡ true → IsOfGrids limit stride s gs key
in_grids limit stride s [] key h = absurd (true≢false (sym h))
in_grids limit stride s (g ∷ gs) key h = ⊎_elim
    (λ (own : is_in key (grid_of limit stride s g) ≡ true).
    let m = in_multiples stride s (start_number g.start + 1) (stop_number limit g.stop - (start_number g.start + 1)) key own in
    let a = m.segment in let f = m.from in let b = m.below in
    record { index = 0; segment = omega arith; within = omega arith; from = omega arith; below = omega arith; divides = m.divides })
    (λ (rest : is_in key (grids_from limit stride (s + 1) gs) ≡ true).
    let r = in_grids limit stride (s + 1) gs key rest in
    let a = r.segment in let w = r.within in
    record { index = suc r.index; segment = omega arith; within = omega arith; from = r.from; below = r.below; divides = r.divides })
    (in_either key (grid_of limit stride s g) (grids_from limit stride (s + 1) gs) h)

-- A key of a plan's grid.
pub record IsGridKey (p : Plan) (stride : ℕ) (key : Key) : Type 0 where
  pub segment : key.segment < length (segments_in p)
  pub from : start_number (segment_at p key.segment).start < key.event
  pub below : key.event < stop_number p.limit (segment_at p key.segment).stop
  pub divides : key.event % stride ≡ 0

pub grid_key : (p : Plan) (stride : ℕ) (key : Key) → is_in key (grid_keys p stride) ≡ true → IsGridKey p stride key
grid_key p stride key h =
    let r = in_grids p.limit stride 0 (segments_in p) key h in
    let at : r.index ≡ key.segment = (let a = r.segment in omega arith) in
    let w = r.within in
    record {
      segment = omega arith;
      from = subst (λ (i : ℕ). start_number (get_or (segments_in p) i no_segment).start < key.event) at r.from;
      below = subst (λ (i : ℕ). key.event < stop_number p.limit (get_or (segments_in p) i no_segment).stop) at r.below;
      divides = r.divides;
    }

pub grids_rise : (limit stride s : ℕ) (gs : List Segment) → rise (grids_from limit stride s gs) ≡ true
grids_rise limit stride s [] = refl
grids_rise limit stride s (g ∷ gs) = rise_append (grid_of limit stride s g) (grids_from limit stride (s + 1) gs)
    (multiples_rise stride s (start_number g.start + 1) (stop_number limit g.stop - (start_number g.start + 1))) (grids_rise limit stride (s + 1) gs)
    (λ a b e f.
    let m = in_multiples stride s (start_number g.start + 1) (stop_number limit g.stop - (start_number g.start + 1)) a e in
    let r = in_grids limit stride (s + 1) gs b f in
    earlier a b (let x = m.segment in let y = r.segment in omega arith))
  where
    earlier : (a b : Key) → a.segment < b.segment → is_before a b ≡ true
    earlier a b less = grind (arith, less)

-- A fork's key has the number of its segment's end.
pub record IsOfForks (s : ℕ) (gs : List Segment) (key : Key) : Type 0 where
  pub index : ℕ
  pub segment : key.segment ≡ s + index
  pub event : key.event ≡ fork_number (get_or gs index no_segment).stop

in_forks : (p : Plan) (s : ℕ) (gs : List Segment) (key : Key) → is_in key (forks_from p s gs) ≡ true → IsOfForks s gs key
in_forks p s [] key h = absurd (true≢false (sym h))
in_forks p s (g ∷ gs) key h = more (in_forks p (s + 1) gs key) (nat_lt s (last_of p.branches g.branch)) h
  where
    later : IsOfForks (s + 1) gs key → IsOfForks s (g ∷ gs) key
    later r = let a = r.segment in record { index = suc r.index; segment = omega arith; event = r.event }

    here : key_at s (fork_number g.stop) ≡ key → IsOfForks s (g ∷ gs) key
    here is = subst (λ (k : Key). IsOfForks s (g ∷ gs) k) is (record { index = 0; segment = omega arith; event = refl })

    more : (is_in key (forks_from p (s + 1) gs) ≡ true → IsOfForks (s + 1) gs key) → (b : Bool)
        → is_in key (with_key b (key_at s (fork_number g.stop)) (forks_from p (s + 1) gs)) ≡ true → IsOfForks s (g ∷ gs) key
    more rec false x = later (rec x)
    more rec true x = ⊎_elim
        (λ (same : same_key (key_at s (fork_number g.stop)) key ≡ true). here (key_is (key_at s (fork_number g.stop)) key same))
        (λ (rest : is_in key (forks_from p (s + 1) gs) ≡ true). later (rec rest))
        (or_either (same_key (key_at s (fork_number g.stop)) key) (is_in key (forks_from p (s + 1) gs)) x)

-- The number of a segment's end isn't below the number up to which its grid goes.
past_grid : (limit e : ℕ) (stop : Stop) → limit ≤ 16777215 → e ≡ fork_number stop → e < stop_number limit stop → ⊥
past_grid limit e (At n) few is below = absurd (omega arith)
past_grid limit e (When w) few is below = absurd (omega arith)

-- A fork is no key of the grid.
apart : (p : Plan) (stride : ℕ) (key : Key) → p.limit ≤ 16777215 → is_in key (fork_keys p) ≡ true → is_in key (grid_keys p stride) ≡ true → ⊥
apart p stride key few f h =
    let a = in_forks p 0 (segments_in p) key f in
    let b = in_grids p.limit stride 0 (segments_in p) key h in
    let same : a.index ≡ b.index = (let x = a.segment in let y = b.segment in omega arith) in
    past_grid p.limit key.event (get_or (segments_in p) b.index no_segment).stop few
    (subst (λ (i : ℕ). key.event ≡ fork_number (get_or (segments_in p) i no_segment).stop) same a.event) b.below

-- So no key stands twice among the forks and the grid, where none does among the forks.
pub keys_distinct : (p : Plan) (stride : ℕ) → p.limit ≤ 16777215 → are_distinct (fork_keys p) ≡ true → are_distinct (fork_keys p ++ grid_keys p stride) ≡ true
keys_distinct p stride few forks =
    distinct_append (fork_keys p) (grid_keys p stride)
    ∙ and_both (are_distinct (fork_keys p) && are_distinct (grid_keys p stride)) (list_all (λ key. not (is_in key (grid_keys p stride))) (fork_keys p))
    (and_both (are_distinct (fork_keys p)) (are_distinct (grid_keys p stride)) forks (rise_distinct (grid_keys p stride) (grids_rise p.limit stride 0 (segments_in p))))
    (all_of (λ key. not (is_in key (grid_keys p stride))) (fork_keys p) (λ k e. none (is_in k (grid_keys p stride)) (apart p stride k few e)))
  where
    none : (b : Bool) → (b ≡ true → ⊥) → not b ≡ true
    none true h = absurd (h refl)
    none false h = refl

pub grid_below : (p : Plan) (stride : ℕ) → ((s : ℕ) → s < length (segments_in p) → stop_number p.limit (segment_at p s).stop < 16777216) → All (KeyBelow (length (segments_in p))) (grid_keys p stride)
grid_below p stride stops = All_of (KeyBelow (length (segments_in p))) (grid_keys p stride)
    (λ k e. let g = grid_key p stride k e in (g.segment, (let t = stops k.segment g.segment in let b = g.below in omega arith)))

-- A sole key has a place.
pub sole_place : (plan : ShelfPlan) (key : Key) → is_sole plan key ≡ true → is_some (place_of plan key) ≡ true
sole_place plan key sole = ⊎_elim
    (λ (fork : is_in key plan.forks ≡ true). let at = fork_place plan key fork in ap (λ (o : Option ℕ). is_some o) at.1)
    (λ (own : has_alone plan key (place_of plan key) ≡ true). by (place_of plan key) own)
    (or_either (is_in key plan.forks) (has_alone plan key (place_of plan key)) sole)
  where
    by : (o : Option ℕ) → has_alone plan key o ≡ true → is_some o ≡ true
    by None e = absurd (true≢false (sym e))
    by (Some p) e = refl

-- Where there are as many places for the grid as keys, each key of the grid is sole.
module _ (plan : ShelfPlan) (key : Key) (many : length plan.grid ≤ plan.places) where
  few : (i : ℕ) → i < length plan.grid → i < plan.places
  few i l = omega arith

  alone_at : (i p : ℕ) → index_of key plan.grid ≡ Some i → i < length plan.grid → p ≡ length plan.forks + i → (k : Key) → (same_key k key || not (is_at (place_of plan k) p)) ≡ true
  alone_at i p at low is k = by (place_of plan k) refl
    where
      by : (o : Option ℕ) → place_of plan k ≡ o → (same_key k key || not (is_at o p)) ≡ true
      by None e = or_right (same_key k key) true refl
      by (Some q) e = ⊎_elim
          (λ (same : (q == p) ≡ true). or_left (same_key k key) (not (q == p)) (equal q (eq_true q p same) e))
          (λ (other : (q == p) ≡ false). or_right (same_key k key) (not (q == p)) (ap not other))
          (bool_cases (q == p))
        where
          equal : (q : ℕ) → q ≡ p → place_of plan k ≡ Some q → same_key k key ≡ true
          equal q one e = ⊎_elim
              (λ (fork : index_of k plan.forks ≡ Some q). let w = within plan.forks q k (index_found k q plan.forks fork) in absurd (omega arith))
              (λ (grid : (j : ℕ) × (index_of k plan.grid ≡ Some j) × (plan.places ≢ 0) × (q ≡ length plan.forks + j % plan.places)).
              let x = index_found k grid.0 plan.grid grid.1 in
              let w = within plan.grid grid.0 k x in
              let small : grid.0 % plan.places ≡ grid.0 = mod-eq_of_lt (few grid.0 w) in
              let is' = grid.3 in
              let j : grid.0 ≡ i = omega arith in
              let y = index_found key i plan.grid at in
              subst (λ (z : Key). same_key k z ≡ true) (some_same k key (sym x ∙ ap (λ (n : ℕ). slice_get plan.grid n) j ∙ y)) (key_self k))
              (place_cases plan (index_of k plan.forks) (index_of k plan.grid) q e)

  pub enough_places : is_in key plan.grid ≡ true → is_sole plan key ≡ true
  enough_places there = by (index_of key plan.forks) refl
    where
      by : (o : Option ℕ) → index_of key plan.forks ≡ o → is_sole plan key ≡ true
      by (Some f) e = or_left (is_in key plan.forks) (has_alone plan key (place_of plan key)) (has_index f plan.forks (index_found key f plan.forks e))
        where
          has_index : (i : ℕ) (keys : List Key) → slice_get keys i ≡ Some key → is_in key keys ≡ true
          has_index i [] e = absurd (not_some key e)
          has_index zero (x ∷ keys) e = or_left (same_key x key) (is_in key keys) (ap (λ (k : Key). same_key k key) (some_same x key e) ∙ key_self key)
          has_index (suc i) (x ∷ keys) e = or_right (same_key x key) (is_in key keys) (has_index i keys e)
      by None e =
          let at = in_has_index key plan.grid there in
          let low = within plan.grid at.0 key (index_found key at.0 plan.grid at.1) in
          let is : place_of plan key ≡ Some (length plan.forks + at.0) = place at.0 e at.1 (omega arith) in
          or_right (is_in key plan.forks) (has_alone plan key (place_of plan key))
          (ap (λ (o : Option ℕ). has_alone plan key o) is
          ∙ all_of (λ k. same_key k key || not (is_at (place_of plan k) (length plan.forks + at.0))) plan.grid (λ k h. alone_at at.0 (length plan.forks + at.0) at.1 low refl k))
        where
          place : (i : ℕ) → index_of key plan.forks ≡ None → index_of key plan.grid ≡ Some i → i < plan.places → place_of plan key ≡ Some (length plan.forks + i)
          place i f g l =
              ap (λ (o : Option ℕ). fork_or_grid plan o (index_of key plan.grid)) f
              ∙ ap (λ (o : Option ℕ). fork_or_grid plan None o) g
              ∙ rw (ne_eqb plan.places 0 (λ z. omega arith)) (ap (λ (n : ℕ). Some (length plan.forks + n)) (mod-eq_of_lt l))
