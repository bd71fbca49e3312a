-- What the workers' shelf is sure to hold, and what it holds.
use Rattle.std.proofs.Common.{◌≡◌, ◌≤◌, ◌+◌, ◌-◌, ℕ, List, ap, ◌∙◌, subst, arith}
use Rattle.shelf_core.specs.declared.plan.ShelfPlan.{ShelfPlan}
use Rattle.kernel_copy.specs.Courses.{CourseTold}
use Rattle.branch_workers.specs.Layout.{layout}
use Rattle.checkpoint_shelf.specs.Told.{ClosedTold}
use Rattle.rewind_desk.specs.AfterWork.{IsAfterWork}
use Rattle.rewind_desk.specs.Best.{best, is_held}
use Rattle.rewind_desk.specs.Left.{nearest_of}
use Rattle.rewind_desk.specs.Sure.{HoldsSure, sure}
use Rattle.rewind_desk.specs.declared.target.Target.{Target}
use Rattle.session_desk.specs.declared.act.Act.{Act}
use Rattle.session_desk.specs.Counted.{all_reached, all_run}
use Rattle.session_desk.specs.Session.{SessionTold, first_session}
use Rattle.study_rules.specs.Accepted.{StudyTold}
use Rattle.abides_run.specs.Output.{SessionRose, study_events}
use Rattle.abides_run.specs.Placed.{MayBeKept, kept_under}
use Rattle.abides_run.specs.Rewinds.{steps_from}

-- no state that is sure to be kept is past the nearest one that was
pub kept-sure : (c : CourseTold) (stride places workers : ℕ) (shelf : ClosedTold CourseTold) → IsAfterWork c stride places workers shelf
    → ((x : ClosedTold CourseTold) (b e : ℕ) → HoldsSure x → sure x.course x.plan b e ≤ best x b e) → HoldsSure shelf
    → (b e : ℕ) → sure c (layout c.plan stride places) b e ≤ best shelf b e
kept-sure c stride places workers shelf after held holds b e =
    subst (λ p. sure c p b e ≤ best shelf b e) after.plan (subst (λ (k : CourseTold). sure k shelf.plan b e ≤ best shelf b e) after.course (held shelf b e holds))

-- so no more steps lead to a target
pub kept-near : (c : CourseTold) (stride places workers : ℕ) (shelf : ClosedTold CourseTold) → IsAfterWork c stride places workers shelf
    → ((x : ClosedTold CourseTold) (b e : ℕ) → HoldsSure x → sure x.course x.plan b e ≤ best x b e) → HoldsSure shelf
    → (t : Target) → steps_from shelf t ≤ t.event - sure c (layout c.plan stride places) t.branch t.event
kept-near c stride places workers shelf after held holds t =
    omega (arith, kept-sure c stride places workers shelf after held holds t.branch t.event)

-- what a shelf holds after work, by the keys of what it holds
pub held-reached : (c : CourseTold) (stride places workers : ℕ) (shelf : ClosedTold CourseTold) → IsAfterWork c stride places workers shelf
    → (s : SessionTold) (acts : List Act) → all_reached (best shelf) s acts ≡ all_reached (kept_under c stride places (is_held shelf)) s acts
held-reached c stride places workers shelf after s acts =
    ap (λ (k : CourseTold). all_reached (λ b e. nearest_of k shelf.plan (is_held shelf) b e) s acts) after.course
    ∙ ap (λ (p : ShelfPlan). all_reached (λ b e. nearest_of c p (is_held shelf) b e) s acts) after.plan

-- a session that goes on from these states, and no others, counts its steps so
pub session-rose : (s : StudyTold) (places workers : ℕ) (acts : List Act) (shelf : ClosedTold CourseTold) (old middle new : ℕ) → IsAfterWork s.course s.stride places workers shelf
    → MayBeKept s.course s.stride places (is_held shelf) → middle ≡ old + study_events s.course
    → new ≡ middle + all_run (first_session s.course) acts + all_reached (best shelf) (first_session s.course) acts → SessionRose s places acts old new
session-rose s places workers acts shelf old middle new after left simulated rose = record {
  held = is_held shelf;
  kept = left;
  rose = omega (arith, simulated, rose, held-reached s.course s.stride places workers shelf after (first_session s.course) acts);
}
