use Rattle.std.proofs.Common.{◌∙◌, ◌+◌, ◌++◌, List, ℕ, length, ap, arith, refl, subst, sym}
use Rattle.kernel_copy.specs.Courses.{CourseTold}
use Rattle.bundle_frames.specs.Frames.{end_frame}
use Rattle.probe_desk.specs.Probe.{Meaning}
use Rattle.session_desk.specs.Fitting.{FitsOpening}
use Rattle.session_desk.specs.Session.{first_session}
use Rattle.session_desk.specs.declared.act.Act.{Act}
use Rattle.session_desk.specs.Answered.{answer_of, session_bytes}
use Rattle.session_desk.proofs.Turns.{all-answered, all-counted, all-there, next-ends, next-stands, none-yet, one-more, one-within}
use Rattle.session_desk.proofs.carrying.carry_out.Goals as goal

pub put_answer-requires-clause-count : goal.put_answer-requires-clause-count
put_answer-requires-clause-count g c =
    let way = c.loop-i.invariant.way in
    let limit = c.args.course.now.value.opening.limit in
    let same = ap (λ (k : CourseTold). k.opening.limit) way.course in
    let all = one-within _ _ _ _ c.args.acts.now _ c.loop-i.i _ _ c.loop-i.steps c.index-acts-i.result (c.loop-i.steps + limit) way c.loop-i-test.true c.index-acts-i.is (omega arith) in
    omega (arith, all, same, c.requires.count)

pub returns-in-Err-put_answer-clause-most : goal.returns-in-Err-put_answer-clause-most
returns-in-Err-put_answer-clause-most g c =
    let way = c.loop-i.invariant.way in
    let same = ap (λ (k : CourseTold). k.opening.limit) way.course in
    one-within _ _ _ _ c.args.acts.now _ c.loop-i.i _ _ c.loop-i.steps c.index-acts-i.result c.put_answer.new.steps way c.loop-i-test.true c.index-acts-i.is
    (omega (arith, same, c.in-Err-put_answer.ensures.most))

pub returns-in-Err-make-clause-most : goal.returns-in-Err-make-clause-most
returns-in-Err-make-clause-most g c =
    let way = c.loop-i.invariant.way in
    let same = ap (λ (k : CourseTold). k.opening.limit) way.course in
    one-within _ _ _ _ c.args.acts.now _ c.loop-i.i _ _ c.loop-i.steps c.index-acts-i.result c.put_answer.new.steps way c.loop-i-test.true c.index-acts-i.is
    (omega (arith, same, c.in-Ok-put_answer.ensures.most))

pub loop-i-preserved : goal.loop-i-preserved
loop-i-preserved g c =
    let inv = c.loop-i.invariant in
    let acts = c.args.acts.now in
    let a = c.index-acts-i.result in
    let s = c.loop-i.session in
    let done = c.in-Ok-put_answer.ensures in
    let same = ap (λ (k : CourseTold). k.opening.limit) inv.way.course in
    let bytes = done.bytes ∙ ap (λ (ms : List Meaning). c.loop-i.out.items ++ answer_of ms s a) inv.meanings in
    record {
      way = one-more _ _ _ _ acts _ c.loop-i.i s c.loop-i.out.items c.loop-i.steps a c.make.new.session c.put_answer.new.out.items c.put_answer.new.steps
          inv.way c.loop-i-test.true c.index-acts-i.is done.within bytes c.in-Ok-make.ensures.made done.rose done.least (omega (arith, same, done.most));
      meanings = done.meanings ∙ inv.meanings;
      titles = done.titles ∙ inv.titles;
    }

pub returns-in-Err-put_answer-clause-past : goal.returns-in-Err-put_answer-clause-past
returns-in-Err-put_answer-clause-past g c =
    next-ends c.args.acts.now c.loop-i.i c.loop-i.session (first_session c.args.course.now.value) c.index-acts-i.result c.in-Err-put_answer.end
    c.loop-i-test.true c.index-acts-i.is c.loop-i.invariant.way.past c.in-Err-put_answer.ensures.past

pub returns-in-Ok-put_end-clause-bytes : goal.returns-in-Ok-put_end-clause-bytes
unfolding session_bytes
returns-in-Ok-put_end-clause-bytes g c =
    let acts = c.args.acts.now in
    c.in-Ok-put_end.ensures.appended
    ∙ ap (λ (xs : List ℕ). xs ++ end_frame (length acts))
    (all-answered _ _ _ _ acts _ c.loop-i.i c.loop-i.session c.loop-i.out.items c.loop-i.steps c.loop-i.invariant.way c.loop-i-test.false)

pub returns-in-Ok-put_end-clause-within : goal.returns-in-Ok-put_end-clause-within
returns-in-Ok-put_end-clause-within g c = all-there _ _ _ _ c.args.acts.now _ c.loop-i.i c.loop-i.session c.loop-i.out.items c.loop-i.steps c.loop-i.invariant.way c.loop-i-test.false

pub returns-in-Ok-put_end-clause-rose : goal.returns-in-Ok-put_end-clause-rose
returns-in-Ok-put_end-clause-rose g c = all-counted _ _ _ _ c.args.acts.now _ c.loop-i.i c.loop-i.session c.loop-i.out.items c.loop-i.steps c.loop-i.invariant.way c.loop-i-test.false

pub returns-in-Ok-put_end-clause-most : goal.returns-in-Ok-put_end-clause-most
returns-in-Ok-put_end-clause-most g c = omega (arith, c.loop-i.invariant.way.most)

pub returns-in-Err-put_answer-clause-least : goal.returns-in-Err-put_answer-clause-least
returns-in-Err-put_answer-clause-least g c = omega (arith, c.loop-i.invariant.way.least, c.in-Err-put_answer.ensures.least)

pub returns-in-Err-put_answer-clause-meanings : goal.returns-in-Err-put_answer-clause-meanings
returns-in-Err-put_answer-clause-meanings g c = c.in-Err-put_answer.ensures.meanings ∙ c.loop-i.invariant.meanings

pub returns-in-Err-put_answer-clause-titles : goal.returns-in-Err-put_answer-clause-titles
returns-in-Err-put_answer-clause-titles g c = c.in-Err-put_answer.ensures.titles ∙ c.loop-i.invariant.titles

pub returns-in-Err-make-clause-least : goal.returns-in-Err-make-clause-least
returns-in-Err-make-clause-least g c = omega (arith, c.loop-i.invariant.way.least, c.in-Ok-put_answer.ensures.least)

pub returns-in-Err-make-clause-meanings : goal.returns-in-Err-make-clause-meanings
returns-in-Err-make-clause-meanings g c = c.in-Ok-put_answer.ensures.meanings ∙ c.loop-i.invariant.meanings

pub returns-in-Err-make-clause-titles : goal.returns-in-Err-make-clause-titles
returns-in-Err-make-clause-titles g c = c.in-Ok-put_answer.ensures.titles ∙ c.loop-i.invariant.titles

pub put_answer-requires-clause-stands : goal.put_answer-requires-clause-stands
put_answer-requires-clause-stands g c =
    next-stands c.args.acts.now c.loop-i.i c.loop-i.session c.index-acts-i.result c.loop-i-test.true c.index-acts-i.is c.loop-i.invariant.way.stands

pub put_answer-requires-clause-shelf : goal.put_answer-requires-clause-shelf
put_answer-requires-clause-shelf g c = c.requires.shelf ∙ sym c.loop-i.invariant.way.course

pub make-requires-clause-stands : goal.make-requires-clause-stands
make-requires-clause-stands g c =
    next-stands c.args.acts.now c.loop-i.i c.loop-i.session c.index-acts-i.result c.loop-i-test.true c.index-acts-i.is c.loop-i.invariant.way.stands

pub make-requires-clause-fit : goal.make-requires-clause-fit
make-requires-clause-fit g c =
    let a = c.index-acts-i.result in
    subst (λ (k : CourseTold). FitsOpening k.opening a) (sym c.loop-i.invariant.way.course)
    (subst (λ (x : Act). FitsOpening c.args.course.now.value.opening x) (sym c.index-acts-i.is) (c.requires.fit c.loop-i.i _ c.loop-i-test.true))

pub loop-i-init : goal.loop-i-init
loop-i-init g c = record {
  way = none-yet _ _ _ _ c.args.acts.now c.args.steps.now c.in-Ok.session c.new-out.result.items c.in-Ok.ensures c.new-out.ensures.items c.requires.stands;
  meanings = refl;
  titles = refl;
}
