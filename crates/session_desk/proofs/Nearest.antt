-- The nearest state that serves a branch.
use Rattle.std.proofs.Common.{◌≡◌, ◌<◌, ◌≤◌, ℕ, true, List, Option, Some, None, length, min, sym, ap, ◌∙◌, subst, arith, inl, inr}
use Rattle.std.specs.Prelude.{nat_le}
use Rattle.std.proofs.lemmas.Bool.{and_from, and_parts, cases_lt, le-leb, leb-true}
use Rattle.shelf_core.specs.declared.plan.Key.{Key}
use Rattle.checkpoint_shelf.specs.Told.{ClosedTold}
use Rattle.branch_tree.specs.declared.branch.Branch.{Branch}
use Rattle.branch_tree.specs.Plan.{parent_at}
use Rattle.branch_tree.specs.Segments.{last_of}
use Rattle.kernel_copy.specs.Courses.{CourseTold, IsCourse}
use Rattle.rewind_desk.specs.Best.{best, count_at, is_held, is_held_near, is_near, is_on, keys_in}
use Rattle.rewind_desk.specs.Nearest.{HasKeys}
use Rattle.rewind_desk.specs.Rewinds.{last_event}
use Rattle.rewind_desk.proofs.Lasts.{best-last}
use Rattle.rewind_desk.proofs.Most.{most-fewer}
use Rattle.session_desk.specs.Session.{SessionTold}
use Rattle.session_desk.specs.Anchors.{anchor_of, follower_of, shared_count, up_to}
use Rattle.session_desk.proofs.Anchors.{IsFurther}
use Rattle.session_desk.proofs.Numbered.{number_at}

near-more : (shelf : ClosedTold CourseTold) (s e m : ℕ) (k : Key) → e ≤ m → is_held_near shelf s e k ≡ true → is_held_near shelf s m k ≡ true
near-more shelf s e m k l h =
    let c = shelf.course in
    let held = and_parts (is_held shelf k) (is_near c s e k) h in
    let near = and_parts (is_on c.plan s k.segment) (nat_le (count_at c k) e) held.1 in
    and_from (is_held shelf k) (is_near c s m k) held.0
    (and_from (is_on c.plan s k.segment) (nat_le (count_at c k) m) near.0 (le-leb (count_at c k) m (omega (arith, l, leb-true (count_at c k) e near.1))))

-- up to more events there is a state with no fewer
best-more : (shelf : ClosedTold CourseTold) (b e m : ℕ) → e ≤ m → best shelf b e ≤ best shelf b m
best-more shelf b e m l =
    let s = last_of shelf.course.plan.branches b in
    most-fewer (count_at shelf.course) (is_held_near shelf s e) (is_held_near shelf s m) (keys_in shelf.plan) (λ k i h. near-more shelf s e m k l h)

-- between two numbers up to which the nearest state is the same, it is the same
squeezed : (shelf : ClosedTold CourseTold) (b x y z : ℕ) → x ≤ y → y ≤ z → best shelf b x ≡ best shelf b z → best shelf b y ≡ best shelf b z
squeezed shelf b x y z low high same = omega (arith, best-more shelf b x y low, best-more shelf b y z high, same)

-- past a branch's last event the nearest state is that up to it
pub nearest-last : (shelf : ClosedTold CourseTold) (c : CourseTold) (b e events : ℕ) → shelf.course ≡ c → IsCourse c → HasKeys shelf (keys_in shelf.plan) → b < length c.plan.branches → events ≤ e
    → (events < e → events ≡ last_event c b) → best shelf b events ≡ best shelf b e
nearest-last shelf c b e events same h keys l within whole = elim (cases_lt events e) [
  | inr all ↦ let is : events ≡ e = omega (arith, all, within) in ap (λ (n : ℕ). best shelf b n) is
  | inl less ↦
      let course : IsCourse shelf.course = subst (λ (x : CourseTold). IsCourse x) (sym same) h in
      let under : b < length shelf.course.plan.branches = subst (λ (x : CourseTold). b < length x.plan.branches) (sym same) l in
      let last : last_event shelf.course b ≡ events = ap (λ (x : CourseTold). last_event x b) same ∙ sym (whole less) in
      ap (λ (n : ℕ). best shelf b n) (sym last) ∙ sym (best-last shelf b e course keys under (omega (arith, last, within)))
]

up-more : (bs : List Branch) (x y : ℕ) (c : Option ℕ) → x ≤ y → up_to bs x c ≤ up_to bs y c
up-more bs x y None l = l
up-more bs x y (Some c) l = omega (arith, l)

-- and so it is of a branch that goes on from its parent
pub nearest-onward : (shelf : ClosedTold CourseTold) (s : SessionTold) (b e n before after : ℕ) → IsFurther s b → n ≡ number_at s.branches b → before ≤ min n e → before ≤ after → after ≤ e
    → best shelf (anchor_of s (parent_at s.branches b)) (shared_count s (parent_at s.branches b) before) ≡ best shelf (anchor_of s (parent_at s.branches b)) (shared_count s (parent_at s.branches b) (min n e))
    → best shelf (anchor_of s b) (shared_count s b after) ≡ best shelf (anchor_of s b) (shared_count s b e)
nearest-onward shelf s b e n before after f is under low high same =
    let q = parent_at s.branches b in
    let a = anchor_of s q in
    let bs = s.branches in
    let c = follower_of s q in
    let one : shared_count s b after ≡ shared_count s q (min n after) = f.shared after ∙ ap (λ (k : ℕ). shared_count s q (min k after)) (sym is) in
    let all : shared_count s b e ≡ shared_count s q (min n e) = f.shared e ∙ ap (λ (k : ℕ). shared_count s q (min k e)) (sym is) in
    let first = up-more bs before (min n after) c (omega (arith, under, low)) in
    let second = up-more bs (min n after) (min n e) c (omega (arith, high)) in
    ap (λ (x : ℕ). best shelf x (shared_count s b after)) f.anchor ∙ ap (λ (x : ℕ). best shelf a x) one
    ∙ squeezed shelf a (shared_count s q before) (shared_count s q (min n after)) (shared_count s q (min n e)) first second same
    ∙ sym (ap (λ (x : ℕ). best shelf x (shared_count s b e)) f.anchor ∙ ap (λ (x : ℕ). best shelf a x) all)

-- the events that a branch shares with its anchor are those that its parent shares, up to the branch's stop
pub shared-onward : (shelf : ClosedTold CourseTold) (s : SessionTold) (b e n : ℕ) → IsFurther s b → n ≡ number_at s.branches b
    → best shelf (anchor_of s b) (shared_count s b e) ≡ best shelf (anchor_of s (parent_at s.branches b)) (shared_count s (parent_at s.branches b) (min n e))
shared-onward shelf s b e n f is =
    let q = parent_at s.branches b in
    ap (λ (x : ℕ). best shelf x (shared_count s b e)) f.anchor
    ∙ ap (λ (x : ℕ). best shelf (anchor_of s q) x) (f.shared e ∙ ap (λ (k : ℕ). shared_count s q (min k e)) (sym is))

-- the same of a parent and a number that are these
pub ticks-onward : (shelf : ClosedTold CourseTold) (s : SessionTold) (b e n q m : ℕ) → IsFurther s b → n ≡ number_at s.branches b → q ≡ parent_at s.branches b → m ≡ min e n
    → best shelf (anchor_of s b) (shared_count s b e) ≡ best shelf (anchor_of s q) (shared_count s q m)
ticks-onward shelf s b e n q m f is parent before =
    let turn : min n e ≡ m = omega (arith, before) in
    shared-onward shelf s b e n f is
    ∙ ap (λ (k : ℕ). best shelf (anchor_of s (parent_at s.branches b)) (shared_count s (parent_at s.branches b) k)) turn
    ∙ ap (λ (k : ℕ). best shelf (anchor_of s k) (shared_count s k m)) (sym parent)

pub near-onward : (shelf : ClosedTold CourseTold) (s : SessionTold) (b e n q m before after : ℕ) → IsFurther s b → n ≡ number_at s.branches b → q ≡ parent_at s.branches b → m ≡ min e n → before ≤ m → before ≤ after → after ≤ e
    → best shelf (anchor_of s q) (shared_count s q before) ≡ best shelf (anchor_of s q) (shared_count s q m)
    → best shelf (anchor_of s b) (shared_count s b after) ≡ best shelf (anchor_of s b) (shared_count s b e)
near-onward shelf s b e n q m before after f is parent at under low high same =
    let p = parent_at s.branches b in
    let turn : m ≡ min n e = omega (arith, at) in
    let here : best shelf (anchor_of s p) (shared_count s p before) ≡ best shelf (anchor_of s p) (shared_count s p (min n e)) =
    subst (λ (k : ℕ). best shelf (anchor_of s p) (shared_count s p before) ≡ best shelf (anchor_of s p) (shared_count s p k)) turn
    (subst (λ (k : ℕ). best shelf (anchor_of s k) (shared_count s k before) ≡ best shelf (anchor_of s k) (shared_count s k m)) parent same) in
    nearest-onward shelf s b e n before after f is (omega (arith, under, turn)) low high here
