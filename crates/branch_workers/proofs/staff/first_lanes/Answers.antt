use Rattle.std.proofs.Common.{◌≡◌, ◌++◌, ◌∷◌, [], ℕ, List, length, sym, ap, ◌∙◌, subst, arith}
use Rattle.std.proofs.lemmas.List.Elements.{All-get_or, All-set, All-weaker}
use Rattle.branch_deques.specs.Lanes.{fresh}
use Rattle.branch_deques.specs.Told.{LaneTold}
use Rattle.branch_deques.specs.declared.rule.LaneView.{LaneView}
use Rattle.kernel_copy.specs.Courses.{CourseTold}
use Rattle.branch_workers.specs.Claims.{HasPushed}
use Rattle.branch_workers.proofs.Layouts.{some_segment, pushed_none, pushed_first}
use Rattle.branch_workers.proofs.staff.first_lanes.Goals as goal

pub push-requires-clause-few : goal.push-requires-clause-few
push-requires-clause-few g c =
    let P : LaneTold → Type 0 = λ lane. lane.own.view ≡ fresh in
    let count = c.in-Ok.ensures.count in let some = c.requires.some in
    let new : P c.index_mut.result.now = subst P (sym c.index_mut.ensures.value) (All-get_or P c.in-Ok.lanes.items 0 c.index_mut.result.now (omega arith) c.in-Ok.ensures.fresh) in
    let e = ap (λ (v : LaneView). length v.pushed) new in
    let s = some_segment c.args.course.now c.know_course.ensures in
    omega (arith, c.requires.room, c.requires.count)

pub push-requires-clause-segment : goal.push-requires-clause-segment
push-requires-clause-segment g c =
    let s = some_segment c.args.course.now c.know_course.ensures in
    omega (arith, c.requires.room, c.requires.count)

pub returns-clause-pushed : goal.returns-clause-pushed
returns-clause-pushed g c =
    let k : CourseTold = c.args.course.now in
    let P : LaneTold → Type 0 = λ lane. lane.own.view ≡ fresh in
    let Q : LaneTold → Type 0 = λ lane. HasPushed k.plan [] lane.own.view.pushed in
    let count = c.in-Ok.ensures.count in let some = c.requires.some in
    let new : P c.index_mut.result.now = subst P (sym c.index_mut.ensures.value) (All-get_or P c.in-Ok.lanes.items 0 c.index_mut.result.now (omega arith) c.in-Ok.ensures.fresh) in
    let pushed : c.push.new.self.own.view.pushed ≡ 0 ∷ [] = ap (λ (v : LaneView). v.pushed) c.push.ensures.pushed.is ∙ ap (λ (v : LaneView). v.pushed ++ 0 ∷ []) new in
    All-set Q c.in-Ok.lanes.items 0 c.push.new.self
    (subst (λ (ps : List ℕ). HasPushed k.plan [] ps) (sym pushed) (pushed_first k c.know_course.ensures))
    (All-weaker P Q (λ lane f. subst (λ (ps : List ℕ). HasPushed k.plan [] ps) (sym (ap (λ (v : LaneView). v.pushed) f)) (pushed_none k.plan)) c.in-Ok.lanes.items c.in-Ok.ensures.fresh)
