-- The nearest state along a chain.
use Rattle.std.proofs.Common.{◌≡◌, ◌≤◌, ◌<◌, ℕ, Bool, inl, inr, Option, Some, None, IfSome, length, sym, ap, ◌∙◌, arith, subst}
use Rattle.std.specs.Prelude.{min}
use Rattle.std.proofs.lemmas.Bool.{cases_lt}
use Rattle.checkpoint_shelf.specs.Told.{ClosedTold}
use Rattle.branch_tree.specs.Segments.{segments_in, segment_at, last_of}
use Rattle.branch_tree.proofs.PartLemmas.{last-at}
use Rattle.kernel_core.specs.State.{State}
use Rattle.kernel_copy.specs.Courses.{CourseTold, IsCourse, IsKeyOf}
use Rattle.kernel_copy.specs.Full.{full}
use Rattle.kernel_copy.specs.Segmentwise.{segment_end}
use Rattle.kernel_copy.proofs.Trees.{course-tree}
use Rattle.kernel_copy.proofs.Walks.{segment-within}
use Rattle.rewind_desk.specs.declared.near.Near.{Near}
use Rattle.rewind_desk.specs.Best.{count_at}
use Rattle.rewind_desk.specs.Nearest.{IsHeld}
use Rattle.rewind_desk.specs.Reach.{IsAt, IsOn}
use Rattle.rewind_desk.specs.Rewinds.{last_event}
use Rattle.rewind_desk.proofs.Arrivals.{at-last, at-within, chain-end}
use Rattle.rewind_desk.proofs.Lasts.{last-end}

-- a state of a chain has at most the events of its end, and so is held up to fewer events
pub held-at : (shelf : ClosedTold CourseTold) (c : CourseTold) (s e x : ℕ) (near : Option Near) → shelf.course ≡ c → IsCourse c → s < length (segments_in c.plan)
    → (segment_end c.opening c.plan (segment_at c.plan s)).state.events ≤ x → IfSome near (IsHeld shelf e) → IfSome near (λ (n : Near). IsOn c.plan s n.key.segment) → IfSome near (IsHeld shelf (min e x))
held-at shelf c s e x None same h l most held on = tt
held-at shelf c s e x (Some n) same h l most held on =
    let key : IsKeyOf c n.key = subst (λ (k : CourseTold). IsKeyOf k n.key) same held.key in
    let count : n.events ≡ count_at c n.key = held.events ∙ ap (λ (k : CourseTold). count_at k n.key) same in
    record {
      held = held.held;
      key = held.key;
      events = held.events;
      early = omega (arith, count, held.early, chain-end c s n.key h l on key);
    }

-- the chain of a near state, of a course that is the shelf's
pub chain-of : (shelf : ClosedTold CourseTold) (c : CourseTold) (s : ℕ) (near : Option Near) → shelf.course ≡ c → IfSome near (λ (n : Near). IsOn shelf.course.plan s n.key.segment)
    → IfSome near (λ (n : Near). IsOn c.plan s n.key.segment)
chain-of shelf c s near same on = subst (λ (x : CourseTold). IfSome near (λ (n : Near). IsOn x.plan s n.key.segment)) same on

-- A state that was reached for an event number, or for the limit of events where that is less.
pub record Arrived (c : CourseTold) (b e : ℕ) (k : State) : Type 0 where
  pub whole : k.events < e → k.events ≡ last_event c b
  pub state : e ≤ k.events → k ≡ (full c.opening c.plan b e).state
  pub exists : e ≤ k.events → e ≤ last_event c b
  pub within : k.events ≤ e

-- the last segment's end has at most as many events as the limit says
pub last-within : (c : CourseTold) (b : ℕ) → IsCourse c → b < length c.plan.branches → (segment_end c.opening c.plan (segment_at c.plan (last_of c.plan.branches b))).state.events ≤ c.opening.limit
last-within c b h l = segment-within c.opening c.plan (last_of c.plan.branches b) (course-tree c h) h.limit (last-at c.plan b l).0

ended-last : (c : CourseTold) (b : ℕ) (k : State) → IsCourse c → b < length c.plan.branches → k ≡ (segment_end c.opening c.plan (segment_at c.plan (last_of c.plan.branches b))).state → k.events ≡ last_event c b
ended-last c b k h l is = ap (λ (s : State). s.events) is ∙ sym (last-end c b h l)

arrived-whole : (c : CourseTold) (b e m : ℕ) (k : State) (more : Bool) → IsCourse c → b < length c.plan.branches → m ≡ min e c.opening.limit → IsAt c (last_of c.plan.branches b) m k more → k.events < e → k.events ≡ last_event c b
arrived-whole c b e m k more h l is at less = elim (cases_lt m (segment_end c.opening c.plan (segment_at c.plan (last_of c.plan.branches b))).state.events) [
  | inl under ↦ absurd (omega (arith, is, less, under, at.events under, last-within c b h l))
  | inr most ↦ ended-last c b k h l (at.whole most)
]

arrived-exists : (c : CourseTold) (b e m : ℕ) (k : State) (more : Bool) → IsCourse c → b < length c.plan.branches → m ≡ min e c.opening.limit → IsAt c (last_of c.plan.branches b) m k more → e ≤ k.events → e ≤ last_event c b
arrived-exists c b e m k more h l is at high = elim (cases_lt m (segment_end c.opening c.plan (segment_at c.plan (last_of c.plan.branches b))).state.events) [
  | inl under ↦ omega (arith, high, under, at.events under, last-end c b h l)
  | inr most ↦ omega (arith, high, ended-last c b k h l (at.whole most))
]

pub arrived : (c : CourseTold) (b e m : ℕ) (k : State) (more : Bool) → IsCourse c → b < length c.plan.branches → m ≡ min e c.opening.limit → IsAt c (last_of c.plan.branches b) m k more → Arrived c b e k
arrived c b e m k more h l is at =
    let within = at-within c (last_of c.plan.branches b) m k more at in
    record {
      whole = arrived-whole c b e m k more h l is at;
      state = λ high. let same : m ≡ e = omega (arith, is, high, within) in
          at-last c b m k more h l (omega (arith, is)) at ∙ ap (λ (x : ℕ). (full c.opening c.plan b x).state) same;
      exists = arrived-exists c b e m k more h l is at;
      within = omega (arith, is, within);
    }
