-- No more steps lead from the states that workers leave to targets than from those that are sure to be kept.
use Rattle.std.proofs.Common.{◌≡◌, ◌≤◌, ℕ, ap, ◌∙◌, arith}
use Rattle.checkpoint_shelf.specs.Told.{ClosedTold}
use Rattle.kernel_copy.specs.Courses.{CourseTold}
use Rattle.shelf_core.specs.declared.plan.ShelfPlan.{ShelfPlan}
use Rattle.branch_workers.specs.Layout.{layout}
use Rattle.rewind_desk.specs.Best.{best}
use Rattle.rewind_desk.specs.Sure.{HoldsSure, sure}
use Rattle.rewind_desk.specs.AfterWork.{IsAfterWork}
use Rattle.rewind_desk.specs.declared.target.Target.{Target}
use Rattle.session_desk.specs.Counted.{surely_kept}
use Rattle.study_rules.specs.Accepted.{StudyTold}
use Rattle.abides_run.specs.Rewinds.{steps_from, steps_to}

pub saved-each : (shelf : ClosedTold CourseTold) (s : StudyTold) (places workers : ℕ)
    → ((x : ClosedTold CourseTold) (b e : ℕ) → HoldsSure x → sure x.course x.plan b e ≤ best x b e)
    → ((c : CourseTold) (stride places workers : ℕ) (x : ClosedTold CourseTold) → IsAfterWork c stride places workers x → HoldsSure x)
    → IsAfterWork s.course s.stride places workers shelf
    → (t : Target) → steps_from shelf t ≤ steps_to s places t
saved-each shelf s places workers law leaves after t =
    let held = leaves s.course s.stride places workers shelf after in
    let least = law shelf t.branch t.event held in
    let told : sure shelf.course shelf.plan t.branch t.event ≡ sure s.course (layout s.course.plan s.stride places) t.branch t.event =
    ap (λ (c : CourseTold). sure c shelf.plan t.branch t.event) after.course ∙ ap (λ (p : ShelfPlan). sure s.course p t.branch t.event) after.plan in
    omega (arith, least, told)

-- each state that is sure to be kept is no nearer than the nearest that the workers left
pub held-each : (shelf : ClosedTold CourseTold) (s : StudyTold) (places workers : ℕ)
    → ((x : ClosedTold CourseTold) (b e : ℕ) → HoldsSure x → sure x.course x.plan b e ≤ best x b e)
    → ((c : CourseTold) (stride places workers : ℕ) (x : ClosedTold CourseTold) → IsAfterWork c stride places workers x → HoldsSure x)
    → IsAfterWork s.course s.stride places workers shelf
    → (b e : ℕ) → surely_kept s.course s.stride places b e ≤ best shelf b e
held-each shelf s places workers law leaves after b e =
    let held = leaves s.course s.stride places workers shelf after in
    let least = law shelf b e held in
    let told : sure shelf.course shelf.plan b e ≡ sure s.course (layout s.course.plan s.stride places) b e =
    ap (λ (c : CourseTold). sure c shelf.plan b e) after.course ∙ ap (λ (p : ShelfPlan). sure s.course p b e) after.plan in
    omega (arith, least, told)
