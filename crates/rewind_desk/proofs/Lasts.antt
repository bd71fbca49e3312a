-- What a closed shelf holds of a branch has at most the events of its full run.
use Rattle.std.proofs.Common.{◌≡◌, ◌≤◌, ◌<◌, ◌+◌, ℕ, Bool, ◌&&◌, inl, inr, length, sym, ap, ◌∙◌, arith, subst}
use Rattle.std.specs.Prelude.{nat_le}
use Rattle.std.proofs.lemmas.Bool.{le-leb}
use Rattle.shelf_core.specs.declared.plan.Key.{Key}
use Rattle.shelf_core.proofs.Lists.{bool_cases}
use Rattle.checkpoint_shelf.specs.Told.{ClosedTold}
use Rattle.branch_tree.specs.Segments.{segments_in, segment_at, last_of}
use Rattle.branch_tree.proofs.PartLemmas.{last-at}
use Rattle.kernel_core.specs.Until.{Run}
use Rattle.kernel_copy.specs.Courses.{CourseTold, IsCourse, IsKeyOf}
use Rattle.kernel_copy.specs.Segmentwise.{segment_end}
use Rattle.kernel_copy.proofs.Trees.{course-tree}
use Rattle.kernel_copy.proofs.Walks.{full-last}
use Rattle.rewind_desk.specs.Best.{best, count_at, is_held, is_held_near, is_near, is_on, keys_in, most_among}
use Rattle.rewind_desk.specs.Nearest.{HasKeys}
use Rattle.rewind_desk.specs.Rewinds.{last_event}
use Rattle.rewind_desk.proofs.Arrivals.{chain-end}
use Rattle.rewind_desk.proofs.Most.{most-same}

-- past the events of a chain's end there are no more states than up to it
near-same : (c : CourseTold) (s e m : ℕ) (k : Key) → IsCourse c → s < length (segments_in c.plan) → (segment_end c.opening c.plan (segment_at c.plan s)).state.events ≤ m → m ≤ e
    → IsKeyOf c k → is_near c s e k ≡ is_near c s m k
near-same c s e m k h l most more key = elim (bool_cases (is_on c.plan s k.segment)) [
  | inr off ↦ ap (λ (t : Bool). t && nat_le (count_at c k) e) off ∙ sym (ap (λ (t : Bool). t && nat_le (count_at c k) m) off)
  | inl on ↦
      let few = chain-end c s k h l on key in
      let both : nat_le (count_at c k) e ≡ nat_le (count_at c k) m = le-leb (count_at c k) e (omega arith) ∙ sym (le-leb (count_at c k) m (omega arith)) in
      ap (λ (t : Bool). is_on c.plan s k.segment && t) both
]

-- the last event of a branch is that of its last segment's end
pub last-end : (c : CourseTold) (b : ℕ) → IsCourse c → b < length c.plan.branches → last_event c b ≡ (segment_end c.opening c.plan (segment_at c.plan (last_of c.plan.branches b))).state.events
last-end c b h l = ap (λ (r : Run). r.state.events) (full-last c.opening c.plan b (course-tree c h) h.limit l)

-- past the last event the shelf holds no more than up to it
pub best-last : (shelf : ClosedTold CourseTold) (b e : ℕ) → IsCourse shelf.course → HasKeys shelf (keys_in shelf.plan) → b < length shelf.course.plan.branches → last_event shelf.course b ≤ e → best shelf b e ≡ best shelf b (last_event shelf.course b)
best-last shelf b e h keys l most =
    let c = shelf.course in
    let s = last_of c.plan.branches b in
    let m = last_event c b in
    most-same (count_at c) (is_held_near shelf s e) (is_held_near shelf s m) (keys_in shelf.plan)
    (λ k i. elim (bool_cases (is_held shelf k)) [
      | inr free ↦ ap (λ (t : Bool). t && is_near c s e k) free ∙ sym (ap (λ (t : Bool). t && is_near c s m k) free)
      | inl held ↦ ap (λ (t : Bool). is_held shelf k && t) (near-same c s e m k h (last-at c.plan b l).0 (omega (arith, last-end c b h l)) most (keys k i held))
    ])

-- the nearest state of the chain of a branch's last segment is the branch's
pub best-is : (shelf : ClosedTold CourseTold) (c : CourseTold) (b e s n : ℕ) → shelf.course ≡ c → s ≡ last_of c.plan.branches b
    → n ≡ most_among (count_at shelf.course) (is_held_near shelf s e) (keys_in shelf.plan) → n ≡ best shelf b e
best-is shelf c b e s n same last most =
    most ∙ ap (λ (x : ℕ). most_among (count_at shelf.course) (is_held_near shelf x e) (keys_in shelf.plan)) (last ∙ ap (λ (k : CourseTold). last_of k.plan.branches b) (sym same))

-- where the last event came before the one that is looked for, the counter rose from the nearest state to the last event
pub past-rose : (shelf : ClosedTold CourseTold) (c : CourseTold) (b e from old new events : ℕ) → shelf.course ≡ c → IsCourse c → HasKeys shelf (keys_in shelf.plan) → b < length c.plan.branches → events < e → events ≡ last_event c b
    → from ≡ best shelf b e → new + from ≡ old + events → new + best shelf b (last_event c b) ≡ old + last_event c b
past-rose shelf c b e from old new events same h keys l less whole nearest ticks =
    let course : IsCourse shelf.course = subst (λ (x : CourseTold). IsCourse x) (sym same) h in
    let under : b < length shelf.course.plan.branches = subst (λ (x : CourseTold). b < length x.plan.branches) (sym same) l in
    let one : last_event shelf.course b ≡ last_event c b = ap (λ (x : CourseTold). last_event x b) same in
    let last = best-last shelf b e course keys under (omega (arith, one, whole)) in
    let here : best shelf b (last_event shelf.course b) ≡ best shelf b (last_event c b) = ap (λ (n : ℕ). best shelf b n) one in
    omega (arith, whole, nearest, ticks, last, here)
