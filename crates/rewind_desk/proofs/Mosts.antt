-- The nearest state is the most of all that the shelf holds.
use Rattle.std.proofs.Common.{◌≡◌, ◌≤◌, ℕ, ◌+◌, Bool, true, ◌||◌, ◌⊎◌, inl, inr, List, [], ◌∷◌, Option, Some, None, refl, sym, ap, ◌∙◌, arith, true≢false}
use Rattle.std.specs.Prelude.{max, nat_le, if◌then◌else◌}
use Rattle.std.specs.List.{position_from}
use Rattle.std.proofs.lemmas.Bool.{cases_lt, leb-true, or_left, or_right}
use Rattle.std.proofs.lemmas.List.Folds.{list_any-append}
use Rattle.shelf_core.specs.declared.plan.Key.{Key}
use Rattle.shelf_core.specs.declared.plan.ShelfPlan.{ShelfPlan}
use Rattle.shelf_core.specs.declared.words.PlaceWord.{PlaceWord}
use Rattle.shelf_core.specs.Plan.{index_of, is_in, place_of, place_in, same_key}
use Rattle.shelf_core.specs.Words.{is_ready}
use Rattle.shelf_core.specs.Possible.{word_in}
use Rattle.shelf_core.proofs.Lists.{bool_cases}
use Rattle.shelf_core.proofs.Plans.{and_left, and_right, place_cases}
use Rattle.branch_tree.specs.Segments.{last_of}
use Rattle.checkpoint_shelf.specs.Told.{ClosedTold}
use Rattle.kernel_copy.specs.Courses.{CourseTold}
use Rattle.rewind_desk.specs.Best.{best, most_among, count_at, is_held, is_held_near, is_near, is_on, keys_in}
use Rattle.rewind_desk.proofs.Most.{most-least}

index-in : (k : Key) (i j : ℕ) (ks : List Key) → position_from (λ (x : Key). same_key x k) i ks ≡ Some j → is_in k ks ≡ true
index-in k i j [] e = cc e
index-in k i j (x ∷ ks) e = elim (bool_cases (same_key x k)) [
  | inl same ↦ ap (λ (t : Bool). t || is_in k ks) same
  | inr other ↦
      let rest : position_from (λ (x : Key). same_key x k) (i + 1) ks ≡ Some j = rw other at e in
      ap (λ (t : Bool). t || is_in k ks) other ∙ index-in k (i + 1) j ks rest
]

-- a key that has a place is one of the plan's
place-in : (plan : ShelfPlan) (k : Key) (p : ℕ) → place_of plan k ≡ Some p → is_in k (keys_in plan) ≡ true
place-in plan k p e = elim (place_cases plan (index_of k plan.forks) (index_of k plan.grid) p e) [
  | inl fork ↦ list_any-append (λ (x : Key). same_key x k) plan.forks plan.grid ∙ or_left (is_in k plan.forks) (is_in k plan.grid) (index-in k 0 p plan.forks fork)
  | inr grid ↦ list_any-append (λ (x : Key). same_key x k) plan.forks plan.grid ∙ or_right (is_in k plan.forks) (is_in k plan.grid) (index-in k 0 grid.0 plan.grid grid.1)
]

ready-place : (k : Key) (words : List PlaceWord) (place : Option ℕ) → is_ready k (word_in words place) ≡ true → (p : ℕ) × (place ≡ Some p)
ready-place k words None h = absurd (true≢false (sym h))
ready-place k words (Some p) h = (p, refl)

held-in : (shelf : ClosedTold CourseTold) (k : Key) → shelf.system.plan ≡ Some shelf.plan → is_held shelf k ≡ true → is_in k (keys_in shelf.plan) ≡ true
held-in shelf k planned held =
    let place = ready-place k shelf.system.places (place_in shelf.system.plan k) held in
    place-in shelf.plan k place.0 (sym (ap (λ (x : Option ShelfPlan). place_in x k) planned) ∙ place.1)

pub best-most : (shelf : ClosedTold CourseTold) (b e : ℕ) (k : Key) → shelf.system.plan ≡ Some shelf.plan → is_held_near shelf (last_of shelf.course.plan.branches b) e k ≡ true → count_at shelf.course k ≤ best shelf b e
best-most shelf b e k planned near =
    let s = last_of shelf.course.plan.branches b in
    most-least (count_at shelf.course) (is_held_near shelf s e) k (keys_in shelf.plan)
    (held-in shelf k planned (and_left (is_held shelf k) (is_near shelf.course s e k) near)) near

most-one : (count : Key → ℕ) (test : Key → Bool) (ks : List Key) → (most_among count test ks ≡ 0) ⊎ ((k : Key) × (test k ≡ true) × (count k ≡ most_among count test ks))
most-one count test [] = inl refl
most-one count test (x ∷ ks) = elim (bool_cases (test x)) [
  | inr out ↦
      let rest : most_among count test (x ∷ ks) ≡ most_among count test ks = ap (λ (t : Bool). max (if t then count x else 0) (most_among count test ks)) out ∙ omega arith in
      elim (most-one count test ks) [
        | inl none ↦ inl (rest ∙ none)
        | inr one ↦ inr (one.0, one.1, one.2 ∙ sym rest)
      ]
  | inl passes ↦
      let both : most_among count test (x ∷ ks) ≡ max (count x) (most_among count test ks) = ap (λ (t : Bool). max (if t then count x else 0) (most_among count test ks)) passes in
      elim (cases_lt (count x) (most_among count test ks)) [
        | inr first ↦ inr (x, passes, omega (arith, both))
        | inl less ↦ elim (most-one count test ks) [
          | inl none ↦ absurd (omega (arith, none))
          | inr one ↦ inr (one.0, one.1, omega (arith, one.2, both))
        ]
      ]
]

pub best-one : (shelf : ClosedTold CourseTold) (b e : ℕ) → (best shelf b e ≡ 0) ⊎ ((k : Key) × (is_held_near shelf (last_of shelf.course.plan.branches b) e k ≡ true) × (count_at shelf.course k ≡ best shelf b e))
best-one shelf b e = most-one (count_at shelf.course) (is_held_near shelf (last_of shelf.course.plan.branches b) e) (keys_in shelf.plan)

pub best-within : (shelf : ClosedTold CourseTold) (b e : ℕ) → best shelf b e ≤ e
best-within shelf b e =
    let c = shelf.course in
    let s = last_of c.plan.branches b in
    elim (best-one shelf b e) [
      | inl none ↦ omega (arith, none)
      | inr one ↦
          let k = one.0 in
          let near = and_right (is_held shelf k) (is_near c s e k) one.1 in
          let early = and_right (is_on c.plan s k.segment) (nat_le (count_at c k) e) near in
          omega (arith, one.2, leb-true (count_at c k) e early)
    ]
