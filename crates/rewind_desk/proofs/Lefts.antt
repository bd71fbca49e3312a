-- The states that workers leave, and the nearest of them.
use Rattle.std.proofs.Common.{◌≡◌, ◌≤◌, ◌<◌, ◌⊎◌, ℕ, zero, suc, Bool, true, ◌&&◌, ◌||◌, inl, inr, List, [], ◌∷◌, Option, Some, None, get_or, length, slice_get, refl, sym, ap, ◌∙◌, arith, subst, true≢false}
use Rattle.std.specs.Prelude.{is_some, nat_le, nat_lt}
use Rattle.std.proofs.lemmas.Bool.{and_parts, cases_lt, le-leb, leb-true, lt-ltb, ltb-true, or_left, or_right}
use Rattle.branch_tree.specs.declared.segment.Segment.{Segment}
use Rattle.branch_tree.specs.declared.stop.Stop.{Stop}
use Rattle.branch_tree.specs.declared.stop.Stop.TheVariants.{At, When}
use Rattle.branch_tree.specs.Segments.{last_of, no_segment, segments_in, segment_at}
use Rattle.shelf_core.specs.declared.plan.Key.{Key}
use Rattle.shelf_core.specs.declared.plan.ShelfPlan.{ShelfPlan}
use Rattle.shelf_core.specs.declared.words.PlaceWord.{PlaceWord}
use Rattle.shelf_core.specs.declared.words.PlaceWord.TheVariants.{Free, Writing, Ready, Lent}
use Rattle.shelf_core.specs.Plan.{has_alone, index_of, is_in, is_sole, place_in, place_of, same_key}
use Rattle.shelf_core.specs.Possible.{word_at, word_in}
use Rattle.shelf_core.specs.Words.{is_ready}
use Rattle.shelf_core.proofs.Lists.{not_some, some_same}
use Rattle.shelf_core.proofs.Plans.{and_left, and_right, index_found, key_is, key_self, or_either, place_cases}
use Rattle.checkpoint_shelf.specs.Told.{ClosedTold}
use Rattle.kernel_copy.specs.Courses.{CourseTold, IsCourse, IsKeyOf}
use Rattle.kernel_copy.specs.Segmentwise.{fork_number}
use Rattle.kernel_copy.proofs.Trees.{course-tree}
use Rattle.branch_workers.specs.Layout.{grid_keys, layout, stop_number}
use Rattle.branch_workers.proofs.Grids.{enough_places, grid_key, sole_place}
use Rattle.rewind_desk.specs.AfterWork.{IsAfterWork}
use Rattle.rewind_desk.specs.Best.{count_at, is_held, is_near, is_on, keys_in}
use Rattle.rewind_desk.specs.Left.{AreLeft, IsAmple, has_state, is_behind, is_possible, is_reached, nearest_of}
use Rattle.rewind_desk.specs.Nearest.{HasKeys}
use Rattle.rewind_desk.specs.Reach.{IsOn}
use Rattle.rewind_desk.specs.Sure.{HoldsSure, end_events, is_passed, is_sure, is_sure_near, sure}
use Rattle.rewind_desk.proofs.Arrivals.{parent-events}
use Rattle.rewind_desk.proofs.Chained.{on-first, on-parents, parent_cases}
use Rattle.rewind_desk.proofs.Laying.{is-laid}
use Rattle.rewind_desk.proofs.Most.{and-true, in-either, most-bound, most-fewer}
use Rattle.rewind_desk.proofs.Nearing.{after-held}
use Rattle.rewind_desk.proofs.Strides.{first-events, fork-least, from_events, passed-count, sure-least}

-- a key whose state is held has a place
ready-placed : (k : Key) (words : List PlaceWord) (place : Option ℕ) → is_ready k (word_in words place) ≡ true → is_some place ≡ true
ready-placed k words None h = absurd (true≢false (sym h))
ready-placed k words (Some place) h = refl

held-placed : (shelf : ClosedTold CourseTold) (k : Key) → shelf.system.plan ≡ Some shelf.plan → is_held shelf k ≡ true → is_some (place_of shelf.plan k) ≡ true
held-placed shelf k laid held =
    subst (λ (x : Option ShelfPlan). is_some (place_in x k) ≡ true) laid (ready-placed k shelf.system.places (place_in shelf.system.plan k) held)

-- and it alone
ready-one : (k l : Key) (word : Option PlaceWord) → is_ready k word ≡ true → is_ready l word ≡ true → k ≡ l
ready-one k l None a b = absurd (true≢false (sym a))
ready-one k l (Some Free) a b = absurd (true≢false (sym a))
ready-one k l (Some (Writing n)) a b = absurd (true≢false (sym a))
ready-one k l (Some (Ready x)) a b = sym (key_is x k a) ∙ key_is x l b
ready-one k l (Some (Lent x n)) a b = absurd (true≢false (sym a))

held-alone : (shelf : ClosedTold CourseTold) (k l : Key) → shelf.system.plan ≡ Some shelf.plan → is_held shelf k ≡ true → is_held shelf l ≡ true → place_of shelf.plan k ≡ place_of shelf.plan l → k ≡ l
held-alone shelf k l laid a b same =
    let at : place_in shelf.system.plan k ≡ place_in shelf.system.plan l =
    ap (λ (x : Option ShelfPlan). place_in x k) laid ∙ same ∙ sym (ap (λ (x : Option ShelfPlan). place_in x l) laid) in
    let word : word_at shelf.system k ≡ word_at shelf.system l = ap (λ (o : Option ℕ). word_in shelf.system.places o) at in
    ready-one k l (word_at shelf.system l) (subst (λ (w : Option PlaceWord). is_ready k w ≡ true) word a) b

-- the number of a grid key isn't that of its segment's end
unlike-end : (limit e : ℕ) (stop : Stop) → limit < 16777215 → e < stop_number limit stop → e ≡ fork_number stop → ⊥
unlike-end limit e (At n) few below is = omega (arith, below, is)
unlike-end limit e (When w) few below is = omega (arith, few, below, is)

-- so it is one at which the segment has a state
grid-state : (c : CourseTold) (stride : ℕ) (k : Key) → IsCourse c → is_in k (grid_keys c.plan stride) ≡ true → IsKeyOf c k → has_state c k.segment k.event ≡ true
grid-state c stride k h there key =
    let few : c.plan.limit < 16777215 = omega (arith, h.limit, h.opening.limit) in
    elim key.event [
      | inl fork ↦ absurd (unlike-end c.plan.limit k.event (segment_at c.plan k.segment).stop few (grid_key c.plan stride k there).below fork)
      | inr (inl at) ↦ or_left (is_reached c k.segment k.event) (is_behind c k.segment k.event)
          (and-true (nat_le (from_events c k.segment) k.event) (nat_le k.event (end_events c k.segment))
          (le-leb (from_events c k.segment) k.event at.from) (le-leb k.event (end_events c k.segment) at.to))
      | inr (inr past) ↦ or_right (is_reached c k.segment k.event) (is_behind c k.segment k.event) past
    ]

-- the keys of the states that a shelf holds
left-here : (shelf : ClosedTold CourseTold) (stride : ℕ) → IsCourse shelf.course → shelf.system.plan ≡ Some shelf.plan → shelf.plan.grid ≡ grid_keys shelf.course.plan stride
    → HasKeys shelf (keys_in shelf.plan) → HoldsSure shelf → AreLeft shelf.course shelf.plan (is_held shelf)
left-here shelf stride h laid grid keys holds =
    let c = shelf.course in
    let plan = shelf.plan in
    record {
      sure = holds;
      possible = λ k i held. elim (in-either k plan.forks plan.grid i) [
        | inl fork ↦ or_left (is_in k plan.forks) (is_some (place_of plan k) && has_state c k.segment k.event) fork
        | inr between ↦ or_right (is_in k plan.forks) (is_some (place_of plan k) && has_state c k.segment k.event)
            (and-true (is_some (place_of plan k)) (has_state c k.segment k.event) (held-placed shelf k laid held)
            (grid-state c stride k h (subst (λ (xs : List Key). is_in k xs ≡ true) grid between) (keys k i held)))
      ];
      alone = λ k l a b same. held-alone shelf k l laid a b same;
    }

pub after-left : (c : CourseTold) (stride places workers : ℕ) (shelf : ClosedTold CourseTold) → IsCourse c → HasKeys shelf (keys_in shelf.plan) → IsAfterWork c stride places workers shelf
    → AreLeft c (layout c.plan stride places) (is_held shelf)
after-left c stride places workers shelf h keys after =
    let here = left-here shelf stride (subst (λ (x : CourseTold). IsCourse x) (sym after.course) h) (after.once.laid ∙ ap Some (sym after.plan))
    (ap (λ (p : ShelfPlan). p.grid) after.plan ∙ ap (λ (x : CourseTold). grid_keys x.plan stride) (sym after.course)) keys
    (after-held c stride places workers shelf after) in
    subst (λ (p : ShelfPlan). AreLeft c p (is_held shelf)) after.plan (subst (λ (x : CourseTold). AreLeft x shelf.plan (is_held shelf)) after.course here)

-- the nearest of states that were left is no farther than the nearest that is sure to be
pub left-least : (c : CourseTold) (plan : ShelfPlan) (held : Key → Bool) (b e : ℕ) → AreLeft c plan held → sure c plan b e ≤ nearest_of c plan held b e
left-least c plan held b e left =
    let s = last_of c.plan.branches b in
    most-fewer (count_at c) (is_sure_near c plan s e) (λ k. held k && is_near c s e k) (keys_in plan)
    (λ k i near. and-true (held k) (is_near c s e k) (left.sure k i (and_left (is_sure c plan k) (is_near c s e k) near)) (and_right (is_sure c plan k) (is_near c s e k) near))

-- and no nearer than the nearest that may be
pub left-most : (c : CourseTold) (plan : ShelfPlan) (held : Key → Bool) (b e : ℕ) → AreLeft c plan held → nearest_of c plan held b e ≤ nearest_of c plan (is_possible c plan) b e
left-most c plan held b e left =
    let s = last_of c.plan.branches b in
    most-fewer (count_at c) (λ k. held k && is_near c s e k) (λ k. is_possible c plan k && is_near c s e k) (keys_in plan)
    (λ k i near. and-true (is_possible c plan k) (is_near c s e k) (left.possible k i (and_left (held k) (is_near c s e k) near)) (and_right (held k) (is_near c s e k) near))

-- what is sure to be left may be
sure-possible : (c : CourseTold) (plan : ShelfPlan) (k : Key) → is_sure c plan k ≡ true → is_possible c plan k ≡ true
sure-possible c plan k known =
    let from = from_events c k.segment in
    let to = end_events c k.segment in
    elim (or_either (is_in k plan.forks) (is_sole plan k && is_passed c k.segment k.event) known) [
      | inl fork ↦ or_left (is_in k plan.forks) (is_some (place_of plan k) && has_state c k.segment k.event) fork
      | inr both ↦
          let parts = and_parts (is_sole plan k) (is_passed c k.segment k.event) both in
          let passes = and_parts (nat_lt from k.event) (nat_le k.event to) parts.1 in
          or_right (is_in k plan.forks) (is_some (place_of plan k) && has_state c k.segment k.event)
          (and-true (is_some (place_of plan k)) (has_state c k.segment k.event) (sole_place plan k parts.0)
          (or_left (is_reached c k.segment k.event) (is_behind c k.segment k.event)
          (and-true (nat_le from k.event) (nat_le k.event to) (le-leb from k.event (omega (arith, ltb-true from k.event passes.0))) passes.1)))
    ]

has-index : (k : Key) (i : ℕ) (keys : List Key) → slice_get keys i ≡ Some k → is_in k keys ≡ true
has-index k i [] e = absurd (not_some k e)
has-index k zero (x ∷ keys) e = or_left (same_key x k) (is_in k keys) (ap (λ (y : Key). same_key y k) (some_same x k e) ∙ key_self k)
has-index k (suc i) (x ∷ keys) e = or_right (same_key x k) (is_in k keys) (has-index k i keys e)

some-is : (o : Option ℕ) → is_some o ≡ true → (p : ℕ) × (o ≡ Some p)
some-is None h = absurd (true≢false (sym h))
some-is (Some p) h = (p, refl)

-- where there are no places between, a key that has one is a fork key
placed-fork : (plan : ShelfPlan) (k : Key) → plan.places ≡ 0 → is_some (place_of plan k) ≡ true → is_in k plan.forks ≡ true
placed-fork plan k none placed =
    let at = some-is (place_of plan k) placed in
    elim (place_cases plan (index_of k plan.forks) (index_of k plan.grid) at.0 at.1) [
      | inl fork ↦ has-index k at.0 plan.forks (index_found k at.0 plan.forks fork)
      | inr grid ↦ absurd (grid.2 none)
    ]

-- where no grid key has a place, or as many places are there as grid keys, one that has a place has it alone
placed-sole : (plan : ShelfPlan) (k : Key) → (plan.places ≡ 0) ⊎ (length plan.grid ≤ plan.places) → is_in k plan.grid ≡ true → is_some (place_of plan k) ≡ true → is_sole plan k ≡ true
placed-sole plan k (inr many) there placed = enough_places plan k many there
placed-sole plan k (inl none) there placed = or_left (is_in k plan.forks) (has_alone plan k (place_of plan k)) (placed-fork plan k none placed)

get-past : (xs : List Segment) (s : ℕ) → length xs ≤ s → get_or xs s no_segment ≡ no_segment
get-past [] s past = refl
get-past (x ∷ xs) zero past = absurd (omega (arith, past))
get-past (x ∷ xs) (suc s) past = get-past xs s (omega (arith, past))

-- the parent of a segment on a branch's chain is on it too
on-branch : (c : CourseTold) (b s q : ℕ) → IsCourse c → s < length (segments_in c.plan) → IsOn c.plan (last_of c.plan.branches b) s → (segment_at c.plan s).parent ≡ Some q → IsOn c.plan (last_of c.plan.branches b) q
on-branch c b s q h l on is =
    let last = last_of c.plan.branches b in
    elim (cases_lt last (length (segments_in c.plan))) [
      | inl within ↦ on-parents c.plan last s q (course-tree c h) within on is
      | inr past ↦
          let none : (segment_at c.plan last).parent ≡ None = ap (λ (g : Segment). g.parent) (get-past (segments_in c.plan) last past) in
          absurd (omega (arith, on-first c.plan last s none on, l, past))
    ]

-- Where each grid key that has a place has it alone, no state that may be left is nearer than the nearest that is sure to be: one
-- that stands at the events before its segment's own has those of a fork.
module _ (c : CourseTold) (stride places b e : ℕ) (h : IsCourse c) (ample : IsAmple c stride places) where
  roomy : (places ≡ 0) ⊎ (length (grid_keys c.plan stride) ≤ places)
  roomy = elim ample [
    | inl none ↦ inl none
    | inr all ↦ inr all.0
  ]

  begins-least : (k : Key) → k.segment < length (segments_in c.plan) → IsOn c.plan (last_of c.plan.branches b) k.segment → count_at c k ≡ from_events c k.segment → count_at c k ≤ e
      → count_at c k ≤ sure c (layout c.plan stride places) b e
  begins-least k l on count early = elim (parent_cases (segment_at c.plan k.segment).parent) [
    | inl none ↦ omega (arith, count, first-events c k.segment none)
    | inr some ↦
        let q = some.0 in
        let events = parent-events c k.segment q some.1 in
        let least = fork-least c (layout c.plan stride places) b e stride k.segment q h (is-laid c.plan stride places) l some.1 (on-branch c b k.segment q h l on some.1) (omega (arith, events, count, early)) in
        omega (arith, events, count, least)
  ]

  grid-least : (k : Key) → is_in k (keys_in (layout c.plan stride places)) ≡ true → is_in k (grid_keys c.plan stride) ≡ true → is_some (place_of (layout c.plan stride places) k) ≡ true
      → is_reached c k.segment k.event ≡ true → IsOn c.plan (last_of c.plan.branches b) k.segment → count_at c k ≤ e → count_at c k ≤ sure c (layout c.plan stride places) b e
  grid-least k i there placed reached on early =
      let laid = layout c.plan stride places in
      let l = (grid_key c.plan stride k there).segment in
      let from = from_events c k.segment in
      let to = end_events c k.segment in
      let parts = and_parts (nat_le from k.event) (nat_le k.event to) reached in
      let low = leb-true from k.event parts.0 in
      let high = leb-true k.event to parts.1 in
      let count = passed-count c k.segment k.event h l low high in
      let alone = placed-sole laid k roomy there placed in
      elim (cases_lt from k.event) [
        | inl above ↦ sure-least c laid b e k i
            (or_right (is_in k laid.forks) (is_sole laid k && is_passed c k.segment k.event)
            (and-true (is_sole laid k) (is_passed c k.segment k.event) alone (and-true (nat_lt from k.event) (nat_le k.event to) (lt-ltb from k.event above) parts.1))) on early
        | inr begins ↦ begins-least k l on (omega (arith, count, low, begins)) early
      ]

  pub possible-least : (k : Key) → is_in k (keys_in (layout c.plan stride places)) ≡ true → is_possible c (layout c.plan stride places) k ≡ true → is_near c (last_of c.plan.branches b) e k ≡ true
      → count_at c k ≤ sure c (layout c.plan stride places) b e
  possible-least k i possible near =
      let laid = layout c.plan stride places in
      let parts = and_parts (is_on c.plan (last_of c.plan.branches b) k.segment) (nat_le (count_at c k) e) near in
      let early = leb-true (count_at c k) e parts.1 in
      let forked = λ (fork : is_in k laid.forks ≡ true). sure-least c laid b e k i (or_left (is_in k laid.forks) (is_sole laid k && is_passed c k.segment k.event) fork) parts.0 early in
      elim (or_either (is_in k laid.forks) (is_some (place_of laid k) && has_state c k.segment k.event) possible) [
        | inl fork ↦ forked fork
        | inr both ↦ elim (in-either k laid.forks laid.grid i) [
          | inl fork ↦ forked fork
          | inr there ↦
              let at = and_parts (is_some (place_of laid k)) (has_state c k.segment k.event) both in
              elim (or_either (is_reached c k.segment k.event) (is_behind c k.segment k.event) at.1) [
                | inl reached ↦ grid-least k i there at.0 reached parts.0 early
                | inr behind ↦ elim ample [
                  | inl none ↦ forked (placed-fork laid k none at.0)
                  | inr all ↦ absurd (true≢false (sym behind ∙ all.1 k there))
                ]
              ]
        ]
      ]

-- so they all come to one number
pub left-one : (c : CourseTold) (stride places : ℕ) (held : Key → Bool) (b e : ℕ) → IsCourse c → IsAmple c stride places → AreLeft c (layout c.plan stride places) held
    → nearest_of c (layout c.plan stride places) held b e ≡ sure c (layout c.plan stride places) b e
left-one c stride places held b e h ample left =
    let laid = layout c.plan stride places in
    let s = last_of c.plan.branches b in
    let most : nearest_of c laid held b e ≤ sure c laid b e = most-bound (count_at c) (λ k. held k && is_near c s e k) (sure c laid b e) (keys_in laid)
    (λ k i near. possible-least c stride places b e h ample k i (left.possible k i (and_left (held k) (is_near c s e k) near)) (and_right (held k) (is_near c s e k) near)) in
    omega (arith, most, left-least c laid held b e left)

pub possible-one : (c : CourseTold) (stride places b e : ℕ) → IsCourse c → IsAmple c stride places
    → nearest_of c (layout c.plan stride places) (is_possible c (layout c.plan stride places)) b e ≡ sure c (layout c.plan stride places) b e
possible-one c stride places b e h ample =
    let laid = layout c.plan stride places in
    let s = last_of c.plan.branches b in
    let most : nearest_of c laid (is_possible c laid) b e ≤ sure c laid b e = most-bound (count_at c) (λ k. is_possible c laid k && is_near c s e k) (sure c laid b e) (keys_in laid)
    (λ k i near. possible-least c stride places b e h ample k i (and_left (is_possible c laid k) (is_near c s e k) near) (and_right (is_possible c laid k) (is_near c s e k) near)) in
    let least : sure c laid b e ≤ nearest_of c laid (is_possible c laid) b e = most-fewer (count_at c) (is_sure_near c laid s e) (λ k. is_possible c laid k && is_near c s e k) (keys_in laid)
    (λ k i near. and-true (is_possible c laid k) (is_near c s e k) (sure-possible c laid k (and_left (is_sure c laid k) (is_near c s e k) near)) (and_right (is_sure c laid k) (is_near c s e k) near)) in
    omega (arith, most, least)
