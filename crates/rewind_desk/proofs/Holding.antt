-- Workers leave on their shelf what they surely leave.
use Rattle.std.proofs.Common.{◌≡◌, ◌<◌, ◌+◌, ℕ, suc, ◌&&◌, true, false, List, [], ◌∷◌, length, get_or, nat_lt, ltb-true, if◌then◌else◌, refl, sym, ap, ◌∙◌, subst, inl, inr, arith}
use Rattle.std.proofs.lemmas.Bool.{and_parts, leb-true}
use Rattle.branch_tree.specs.declared.segment.Segment.{Segment}
use Rattle.branch_tree.specs.Plan.{Plan}
use Rattle.branch_tree.specs.Segments.{segments_in, segment_at, last_of, no_segment}
use Rattle.shelf_core.specs.declared.plan.Key.{Key}
use Rattle.shelf_core.specs.declared.plan.ShelfPlan.{ShelfPlan}
use Rattle.shelf_core.specs.Plan.{is_in, is_sole, same_key}
use Rattle.shelf_core.proofs.Plans.{key_is, or_either}
use Rattle.checkpoint_shelf.specs.Told.{ClosedTold}
use Rattle.kernel_copy.specs.Courses.{CourseTold}
use Rattle.kernel_copy.specs.Segmentwise.{fork_number, from_count}
use Rattle.branch_workers.specs.Layout.{end_key, fork_keys, forks_from, layout}
use Rattle.branch_workers.specs.Workers.{RanOnce}
use Rattle.rewind_desk.specs.Best.{is_held, keys_in}
use Rattle.rewind_desk.specs.Sure.{HoldsSure, end_events, is_passed, is_sure}
use Rattle.rewind_desk.proofs.Most.{in-either}
use Rattle.std.specs.Prelude.{nat_le}

-- a key is that of the end of a segment from which others go on
record IsEnd (p : Plan) (k : Key) : Type 0 where
  segment : ℕ
  below : segment < length (segments_in p)
  unfinished : segment < last_of p.branches (segment_at p segment).branch
  key : k ≡ end_key p segment

-- the segments of a plan from this number on
record AreFrom (p : Plan) (n : ℕ) (gs : List Segment) : Type 0 where
  each : (j : ℕ) → j < length gs → get_or gs j no_segment ≡ segment_at p (n + j)
  all : n + length gs ≡ length (segments_in p)

from-next : (p : Plan) (n : ℕ) (g : Segment) (gs : List Segment) → AreFrom p n (g ∷ gs) → AreFrom p (n + 1) gs
from-next p n g gs f = record {
  each = λ j less. let up : n + suc j ≡ n + 1 + j = omega arith in f.each (suc j) (omega (arith, less)) ∙ ap (λ (k : ℕ). segment_at p k) up;
  all = omega (arith, f.all);
}

from-first : (p : Plan) (n : ℕ) (g : Segment) (gs : List Segment) → AreFrom p n (g ∷ gs) → g ≡ segment_at p n
from-first p n g gs f = let here : n + 0 ≡ n = omega arith in f.each 0 (omega arith) ∙ ap (λ (k : ℕ). segment_at p k) here

forks-end : (p : Plan) (k : Key) (n : ℕ) (gs : List Segment) → AreFrom p n gs → is_in k (forks_from p n gs) ≡ true → IsEnd p k
forks-end p k n [] f h = absurd (cc h)
forks-end p k n (g ∷ gs) f h =
    let is = from-first p n g gs f in
    let here : Key = record { segment = n; event = fork_number g.stop } in
    let more = forks_from p (n + 1) gs in
    elim (nat_lt n (last_of p.branches g.branch)) as (λ b. nat_lt n (last_of p.branches g.branch) ≡ b → is_in k (if b then here ∷ more else more) ≡ true → IsEnd p k) [
      | true ↦ λ e i. elim (or_either (same_key here k) (is_in k more) i) [
        | inl same ↦ record {
          segment = n;
          below = omega (arith, f.all);
          unfinished = let less : n < last_of p.branches g.branch = grind (arith, e) in subst (λ (x : Segment). n < last_of p.branches x.branch) is less;
          key = sym (key_is here k same) ∙ ap (λ (x : Segment). record { segment = n; event = fork_number x.stop }) is;
        }
        | inr rest ↦ forks-end p k (n + 1) gs (from-next p n g gs f) rest
      ]
      | false ↦ λ e i. forks-end p k (n + 1) gs (from-next p n g gs f) i
    ] refl h

fork-is-end : (p : Plan) (k : Key) → is_in k (fork_keys p) ≡ true → IsEnd p k
fork-is-end p k h =
    forks-end p k 0 (segments_in p) (record { each = λ j less. let up : j ≡ 0 + j = omega arith in ap (λ (i : ℕ). segment_at p i) up; all = omega arith }) h

module _ (shelf : ClosedTold CourseTold) (stride places workers : ℕ) (laid : shelf.plan ≡ layout shelf.course.plan stride places)
    (ran : RanOnce shelf.course (layout shelf.course.plan stride places) workers shelf.system) where
  fork-held : (k : Key) → is_in k (fork_keys shelf.course.plan) ≡ true → is_held shelf k ≡ true
  fork-held k h =
      let end = fork-is-end shelf.course.plan k h in
      subst (λ (x : Key). is_held shelf x ≡ true) (sym end.key) (ran.forks end.segment end.below end.unfinished)

  sure-held : (plan : ShelfPlan) → plan ≡ layout shelf.course.plan stride places → (k : Key) → is_in k (keys_in plan) ≡ true → is_sure shelf.course plan k ≡ true
      → is_held shelf k ≡ true
  sure-held plan is k inside sure = elim (in-either k plan.forks plan.grid inside) [
    | inl fork ↦ fork-held k (subst (λ (x : ShelfPlan). is_in k x.forks ≡ true) is fork)
    | inr between ↦ elim (or_either (is_in k plan.forks) (is_sole plan k && is_passed shelf.course k.segment k.event) sure) [
      | inl fork ↦ fork-held k (subst (λ (x : ShelfPlan). is_in k x.forks ≡ true) is fork)
      | inr both ↦
          let c = shelf.course in
          let parts = and_parts (is_sole plan k) (is_passed c k.segment k.event) both in
          let from = from_count c.opening c.plan (segment_at c.plan k.segment) in
          let passes = and_parts (nat_lt from k.event) (nat_le k.event (end_events c k.segment)) parts.1 in
          ran.grid k.segment k.event (subst (λ (x : ShelfPlan). is_in k x.grid ≡ true) is between) (subst (λ (x : ShelfPlan). is_sole x k ≡ true) is parts.0)
          (record { begins = ltb-true from k.event passes.0; reaches = leb-true k.event (end_events c k.segment) passes.1 })
    ]
  ]

  -- each state that the workers surely leave is held
  pub holds-sure : HoldsSure shelf
  holds-sure k inside sure = sure-held shelf.plan laid k inside sure
