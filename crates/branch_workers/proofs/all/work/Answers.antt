use Rattle.std.proofs.Common.{◌≡◌, ◌-◌, ◌+◌, ◌<◌, ◌≤◌, ℕ, List, All, Option, None, IsSome, Vec, Global, length, map, replicate, sym, ap, ◌∙◌, subst, arith}
use Rattle.std.proofs.lemmas.List.{length-replicate}
use Rattle.branch_tree.specs.Segments.{segments_in}
use Rattle.branch_tree.specs.Plan.{Plan}
use Rattle.branch_tree.specs.declared.segment.Segment.{Segment}
use Rattle.shelf_core.specs.Views.{spent_view}
use Rattle.shelf_core.specs.declared.plan.ShelfPlan.{ShelfPlan}
use Rattle.shelf_core.specs.declared.seat.SeatView.{SeatView}
use Rattle.shelf_core.specs.declared.system.System.{System}
use Rattle.checkpoint_shelf.specs.Told.{ShelfTold}
use Rattle.kernel_copy.specs.Courses.{CourseTold}
use Rattle.kernel_copy.specs.declared.run.Outcome.{Outcome}
use Rattle.branch_workers.specs.Layout.{layout}
use Rattle.branch_workers.specs.Runs.{IsShelfOf}
use Rattle.branch_workers.specs.Workers.{RanOnce}
use Rattle.branch_workers.proofs.Closing.{AreJoined, are_joined, most_of, events_of_all, ran_of_all, some_of_all, told_of_all, vectors_below}
use Rattle.branch_workers.proofs.all.work.Goals as goal

pub join-requires : goal.join-requires
join-requires g c =
    let k : CourseTold = c.args.course.now.value in
    let sh : ShelfTold CourseTold = c.in-Ok.shelf in
    let s : System = c.close-shelf.result.system in
    let seats = c.in-Ok-run_seated.back.seats.items in
    let back = c.in-Ok-run_seated.ensures in
    let is = subst (λ (x : CourseTold). IsShelfOf x c.args.setup.stride sh) c.deref-2.ensures c.in-Ok.ensures.shelf in
    let some : 0 < length seats = omega (arith, back.back.all, c.in-Ok.ensures.plan.1, c.requires.workers.0) in
    let j = are_joined k c.args.setup.stride sh s seats _ is c.in-Ok.ensures.fits some c.close-shelf.ensures.plan c.close-shelf.ensures.orderly c.close-shelf.ensures.settled c.close-shelf.ensures.views in
    let most = most_of k sh.plan s seats j in
    omega (arith, back.most, c.requires.steps)

pub returns-then-not-finished-clause-most : goal.returns-then-not-finished-clause-most
returns-then-not-finished-clause-most g c =
    let k : CourseTold = c.args.course.now.value in
    let sh : ShelfTold CourseTold = c.in-Ok.shelf in
    let s : System = c.close-shelf.result.system in
    let seats = c.in-Ok-run_seated.back.seats.items in
    let back = c.in-Ok-run_seated.ensures in
    let is = subst (λ (x : CourseTold). IsShelfOf x c.args.setup.stride sh) c.deref-2.ensures c.in-Ok.ensures.shelf in
    let some : 0 < length seats = omega (arith, back.back.all, c.in-Ok.ensures.plan.1, c.requires.workers.0) in
    let j = are_joined k c.args.setup.stride sh s seats _ is c.in-Ok.ensures.fits some c.close-shelf.ensures.plan c.close-shelf.ensures.orderly c.close-shelf.ensures.settled c.close-shelf.ensures.views in
    let most = most_of k sh.plan s seats j in
    omega (arith, back.most, c.join.ensures)

pub place_all-requires : goal.place_all-requires
place_all-requires g c =
    let k : CourseTold = c.args.course.now.value in
    let back = c.in-Ok-run_seated.ensures in
    let count = ap (λ (xs : List Segment). length xs) (c.segments.ensures.value ∙ ap (λ (p : Plan). segments_in p) (c.plan.ensures.value ∙ ap (λ (x : CourseTold). x.plan) c.deref.ensures)) in
    let empty = c.in-Ok-empty_slots.ensures ∙ ap (λ (n : ℕ). let xs : List (Option Outcome) = replicate n None in xs) count in
    vectors_below k c.args.setup.keep c.in-Ok.shelf.plan (length c.in-Ok-empty_slots.slots.items) c.in-Ok-run_seated.back.seats.items c.in-Ok-run_seated.back.outcomes.items (back.finished c.if-not-finished.false)
    (ap (λ (xs : List (Option Outcome)). length xs) empty ∙ length-replicate (length (segments_in k.plan)) None)

pub in_order-requires : goal.in_order-requires
in_order-requires g c =
    let k : CourseTold = c.args.course.now.value in
    let sh : ShelfTold CourseTold = c.in-Ok.shelf in
    let s : System = c.close-shelf.result.system in
    let seats = c.in-Ok-run_seated.back.seats.items in
    let back = c.in-Ok-run_seated.ensures in
    let is = subst (λ (x : CourseTold). IsShelfOf x c.args.setup.stride sh) c.deref-2.ensures c.in-Ok.ensures.shelf in
    let some : 0 < length seats = omega (arith, back.back.all, c.in-Ok.ensures.plan.1, c.requires.workers.0) in
    let j = are_joined k c.args.setup.stride sh s seats _ is c.in-Ok.ensures.fits some c.close-shelf.ensures.plan c.close-shelf.ensures.orderly c.close-shelf.ensures.settled c.close-shelf.ensures.views in
    let lists = map (λ (v : Vec Outcome Global). v.items) c.in-Ok-run_seated.back.outcomes.items in
    let fin = back.finished c.if-not-finished.false in
    let count = ap (λ (xs : List Segment). length xs) (c.segments.ensures.value ∙ ap (λ (p : Plan). segments_in p) (c.plan.ensures.value ∙ ap (λ (x : CourseTold). x.plan) c.deref.ensures)) in
    let empty = c.in-Ok-empty_slots.ensures ∙ ap (λ (n : ℕ). let xs : List (Option Outcome) = replicate n None in xs) count in
    subst (λ (xs : List (Option Outcome)). All (λ (x : Option Outcome). IsSome x) xs) (sym c.place_all.ensures) (some_of_all k sh.plan s c.args.setup.keep seats lists j fin c.in-Ok-empty_slots.slots.items empty)

pub returns-in_default-in_order-clause-most : goal.returns-in_default-in_order-clause-most
returns-in_default-in_order-clause-most g c =
    let k : CourseTold = c.args.course.now.value in
    let sh : ShelfTold CourseTold = c.in-Ok.shelf in
    let s : System = c.close-shelf.result.system in
    let seats = c.in-Ok-run_seated.back.seats.items in
    let back = c.in-Ok-run_seated.ensures in
    let is = subst (λ (x : CourseTold). IsShelfOf x c.args.setup.stride sh) c.deref-2.ensures c.in-Ok.ensures.shelf in
    let some : 0 < length seats = omega (arith, back.back.all, c.in-Ok.ensures.plan.1, c.requires.workers.0) in
    let j = are_joined k c.args.setup.stride sh s seats _ is c.in-Ok.ensures.fits some c.close-shelf.ensures.plan c.close-shelf.ensures.orderly c.close-shelf.ensures.settled c.close-shelf.ensures.views in
    let most = most_of k sh.plan s seats j in
    omega (arith, back.most, c.join.ensures)

pub returns : goal.returns
returns g c =
    let k : CourseTold = c.args.course.now.value in
    let sh : ShelfTold CourseTold = c.in-Ok.shelf in
    let s : System = c.close-shelf.result.system in
    let seats = c.in-Ok-run_seated.back.seats.items in
    let back = c.in-Ok-run_seated.ensures in
    let is = subst (λ (x : CourseTold). IsShelfOf x c.args.setup.stride sh) c.deref-2.ensures c.in-Ok.ensures.shelf in
    let some : 0 < length seats = omega (arith, back.back.all, c.in-Ok.ensures.plan.1, c.requires.workers.0) in
    let j = are_joined k c.args.setup.stride sh s seats _ is c.in-Ok.ensures.fits some c.close-shelf.ensures.plan c.close-shelf.ensures.orderly c.close-shelf.ensures.settled c.close-shelf.ensures.views in
    let lists = map (λ (v : Vec Outcome Global). v.items) c.in-Ok-run_seated.back.outcomes.items in
    let fin = back.finished c.if-not-finished.false in
    let count = ap (λ (xs : List Segment). length xs) (c.segments.ensures.value ∙ ap (λ (p : Plan). segments_in p) (c.plan.ensures.value ∙ ap (λ (x : CourseTold). x.plan) c.deref.ensures)) in
    let empty = c.in-Ok-empty_slots.ensures ∙ ap (λ (n : ℕ). let xs : List (Option Outcome) = replicate n None in xs) count in
    let laid : sh.plan ≡ layout k.plan c.args.setup.stride c.args.setup.places = c.in-Ok.ensures.plan.0 ∙ ap (λ (x : CourseTold). layout x.plan c.args.setup.stride c.args.setup.places) c.deref-2.ensures in
    let all = events_of_all k sh.plan s c.args.setup.keep seats lists j fin in
    let counted = back.counted c.if-not-finished.false in
    let views = ap (λ (vs : List SeatView). length vs) c.close-shelf.ensures.views in
    let others = length-replicate (sh.seats - 1) spent_view in
    let workers : length s.views ≡ c.args.setup.workers = omega (arith, c.in-Ok.ensures.plan.1, c.requires.workers.0) in
    record {
      outcomes = told_of_all k sh.plan s c.args.setup.keep seats lists j fin c.in-Ok-empty_slots.slots.items empty c.in-Ok-in_order.outcomes.items (c.in-Ok-in_order.ensures ∙ c.place_all.ensures);
      rose = omega (arith, c.join.ensures);
      most = omega (arith, c.join.ensures);
      least = omega (arith, c.join.ensures);
      shelf = (c.close-shelf.ensures.about.0 ∙ laid, c.close-shelf.ensures.about.1 ∙ is.course);
      once = subst (λ (p : ShelfPlan). RanOnce k p c.args.setup.workers s) laid (ran_of_all k sh.plan s c.args.setup.keep seats lists j fin c.args.setup.workers workers);
    }
