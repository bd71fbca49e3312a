use Rattle.std.proofs.Common.{◌≡◌, length, sym, ◌∙◌, ap, arith}
use Rattle.std.proofs.lemmas.Option.{slice_get_read}
use Rattle.std.proofs.Common.{refl}
use Rattle.shelf_core.specs.After.{step_of}
use Rattle.shelf_core.specs.declared.system.System.{System}
use Rattle.shelf_core.specs.declared.event.Event.{Event}
use Rattle.shelf_core.proofs.Grown.{step_is, left_next}
use Rattle.shelf_core.proofs.Kept.{law_holds}
use Rattle.shelf_core.proofs.run.law.Goals as goal

pub returns-in_err-s-clause-law : goal.returns-in_err-s-clause-law
returns-in_err-s-clause-law c = law_holds c.args.events.now

pub returns-in_default-clause-law : goal.returns-in_default-clause-law
returns-in_default-clause-law c = law_holds c.args.events.now

pub returns-clause-law : goal.returns-clause-law
returns-clause-law c = law_holds c.args.events.now

pub loop-event-preserved : goal.loop-event-preserved
loop-event-preserved c =
    let e : Event = c.event-item.result in
    let s : System = c.loop-event.s in
    let at = slice_get_read c.args.events.now (length c.args.events.now) c.loop-event.event-index e refl c.loop-event-test.true c.event-item.is in
    let is : c.step.new.s ≡ step_of s e = step_is s c.step.new.s e c.in-Ok._made c.in-Ok.ensures.answer c.in-Ok.ensures.made c.in-Ok.ensures.not_made in
    record {
      left = is ∙ ap (λ t. step_of t e) c.loop-event.invariant.left ∙ sym (left_next c.args.events.now c.loop-event.event-index e at);
      orderly = c.step.ensures.stays_orderly;
      small = c.step.ensures.stays_small;
      seats = let more = c.step.ensures.one_more in let before = c.loop-event.invariant.seats in omega arith;
    }
