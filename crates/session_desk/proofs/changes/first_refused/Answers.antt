use Rattle.std.proofs.Common.{◌≡◌, ◌<◌, ◌≤◌, ◌+◌, ◌∙◌, ℕ, Bool, true, false, List, ◌∷◌, Option, None, Some, if◌then◌else◌, length, get_or, drop, sym, ap}
use Rattle.std.proofs.lemmas.Bool.{not-false, not-true}
use Rattle.std.proofs.lemmas.List.{drop_all}
use Rattle.session_desk.specs.Session.{SessionTold}
use Rattle.session_desk.specs.Acting.{after_act}
use Rattle.session_desk.specs.Refused.{is_refused, refused_from}
use Rattle.session_desk.specs.declared.act.Act.{Act}
use Rattle.session_desk.proofs.Turns.{course-stays, next-is}
use Rattle.session_desk.proofs.changes.first_refused.Goals as goal

-- the next act decides, or else those behind it do
decides : (acts : List Act) (i : ℕ) (s : SessionTold) (a : Act) (b : Bool) → i < length acts → a ≡ get_or acts i a → is_refused s a ≡ b
    → refused_from i s (drop i acts) ≡ (if b then Some i else refused_from (i + 1) (after_act s a) (drop (i + 1) acts))
decides acts i s a b within is refused =
    ap (refused_from i s) (next-is acts i a within is)
    ∙ ap (λ (r : Bool). if r then Some i else refused_from (i + 1) (after_act s a) (drop (i + 1) acts)) refused

pub loop-i-preserved : goal.loop-i-preserved
loop-i-preserved c =
    let inv = c.loop-i.invariant in
    let acts = c.args.acts.now in
    let i = c.loop-i.i in
    let s = c.loop-i.session in
    let a = c.index-acts-i.result in
    let stands : is_refused s a ≡ false = not-true (is_refused s a) (sym c.in-Ok-change.ensures.told ∙ c.if-not-made.false) in
    let made : c.change.new.session ≡ after_act s a = c.in-Ok-change.ensures.made c.if-not-made.false in
    record {
      course = ap (λ (t : SessionTold). t.course) made ∙ course-stays s a ∙ inv.course;
      first = ap (λ (t : SessionTold). refused_from (i + 1) t (drop (i + 1) acts)) made
          ∙ sym (decides acts i s a false c.loop-i-test.true c.index-acts-i.is stands) ∙ inv.first;
    }

pub returns-then-not-made-clause-first : goal.returns-then-not-made-clause-first
returns-then-not-made-clause-first c =
    let s = c.loop-i.session in
    let a = c.index-acts-i.result in
    let refused : is_refused s a ≡ true = not-false (is_refused s a) (sym c.in-Ok-change.ensures.told ∙ c.if-not-made.true) in
    sym (decides c.args.acts.now c.loop-i.i s a true c.loop-i-test.true c.index-acts-i.is refused) ∙ c.loop-i.invariant.first

pub returns-clause-first : goal.returns-clause-first
returns-clause-first c =
    sym (ap (λ (acts : List Act). refused_from c.loop-i.i c.loop-i.session acts) (drop_all c.loop-i.i c.args.acts.now c.loop-i-test.false)) ∙ c.loop-i.invariant.first
