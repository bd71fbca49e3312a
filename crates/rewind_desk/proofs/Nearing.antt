-- What the shelf of workers meets.
use Rattle.std.proofs.Common.{◌≡◌, ◌<◌, ◌≤◌, ◌+◌, ℕ, length, sym, ap, ◌∙◌, subst}
use Rattle.shelf_core.specs.declared.plan.ShelfPlan.{ShelfPlan}
use Rattle.checkpoint_shelf.specs.Told.{ClosedTold}
use Rattle.kernel_copy.specs.Courses.{CourseTold, IsCourse}
use Rattle.branch_workers.specs.Layout.{grid_keys, layout}
use Rattle.branch_workers.specs.Workers.{RanOnce}
use Rattle.rewind_desk.specs.Best.{best}
use Rattle.rewind_desk.specs.Rewinds.{last_event}
use Rattle.rewind_desk.specs.Sure.{HoldsSure, IsLaidFor, AreAllSole, IsWholeAtForks}
use Rattle.rewind_desk.specs.AfterWork.{IsAfterWork}
use Rattle.rewind_desk.proofs.Holding.{holds-sure}
use Rattle.rewind_desk.proofs.Laying.{is-laid}

pub after-held : (c : CourseTold) (stride places workers : ℕ) (shelf : ClosedTold CourseTold) → IsAfterWork c stride places workers shelf → HoldsSure shelf
after-held c stride places workers shelf after =
    let plan : shelf.plan ≡ layout shelf.course.plan stride places = after.plan ∙ ap (λ (x : CourseTold). layout x.plan stride places) (sym after.course) in
    let once : RanOnce shelf.course (layout shelf.course.plan stride places) workers shelf.system =
    subst (λ (x : CourseTold). RanOnce x (layout x.plan stride places) workers shelf.system) (sym after.course) after.once in
    holds-sure shelf stride places workers plan once

pub after-sole : (c : CourseTold) (stride places workers : ℕ) (shelf : ClosedTold CourseTold) → IsAfterWork c stride places workers shelf → length (grid_keys c.plan stride) ≤ places → AreAllSole shelf.plan
after-sole c stride places workers shelf after many =
    let all : AreAllSole (layout c.plan stride places) = λ k there. after.once.alone many k.segment k.event there in
    subst (λ (x : ShelfPlan). AreAllSole x) (sym after.plan) all

-- a shelf of workers is laid out for its course's plan
after-laid : (c : CourseTold) (stride places workers : ℕ) (shelf : ClosedTold CourseTold) → IsAfterWork c stride places workers shelf → IsLaidFor shelf.course.plan stride shelf.plan
after-laid c stride places workers shelf after =
    let here : IsLaidFor c.plan stride shelf.plan = subst (λ (x : ShelfPlan). IsLaidFor c.plan stride x) (sym after.plan) (is-laid c.plan stride places) in
    subst (λ (x : CourseTold). IsLaidFor x.plan stride shelf.plan) (sym after.course) here

-- The bound on rewinds, as it is proved of every shelf that meets what it asks for.
abbrev pub Bound : Type 0
Bound = (shelf : ClosedTold CourseTold) (b e stride : ℕ) → IsCourse shelf.course → b < length shelf.course.plan.branches → e ≤ last_event shelf.course b → 0 < stride
    → HoldsSure shelf → IsLaidFor shelf.course.plan stride shelf.plan → AreAllSole shelf.plan → IsWholeAtForks shelf.course b → e ≤ best shelf b e + stride

pub after-near : Bound → (c : CourseTold) (stride places workers : ℕ) (shelf : ClosedTold CourseTold) (b e : ℕ) → IsCourse c → 0 < stride → IsAfterWork c stride places workers shelf
    → length (grid_keys c.plan stride) ≤ places → IsWholeAtForks c b → b < length c.plan.branches → e ≤ last_event c b → e ≤ best shelf b e + stride
after-near bound c stride places workers shelf b e course some after many whole below most =
    let is = sym after.course in
    bound shelf b e stride (subst (λ (x : CourseTold). IsCourse x) is course) (subst (λ (x : CourseTold). b < length x.plan.branches) is below)
    (subst (λ (x : CourseTold). e ≤ last_event x b) is most) some (after-held c stride places workers shelf after) (after-laid c stride places workers shelf after)
    (after-sole c stride places workers shelf after many) (subst (λ (x : CourseTold). IsWholeAtForks x b) is whole)
