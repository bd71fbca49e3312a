use Rattle.std.proofs.Common.{Option, IfSome, refl, sym, subst}
use Rattle.kernel_copy.proofs.Trees.{course-tree}
use Rattle.rewind_desk.specs.declared.near.Near.{Near}
use Rattle.rewind_desk.specs.Nearest.{IsBeginning}
use Rattle.rewind_desk.specs.Reach.{IsOn}
use Rattle.rewind_desk.proofs.Chained.{on-below, on-early}
use Rattle.rewind_desk.proofs.chain.beginning_of.Goals as goal

pub returns-in-Some-clause-exists : goal.returns-in-Some-clause-exists
returns-in-Some-clause-exists c =
    let k = c.args.course.now in
    let on = subst (λ (o : Option Near). IfSome o (λ n. IsOn k.plan c.args.last n.key.segment)) c.in-Some.is c.requires.chain in
    on-below k.plan c.args.last c.in-Some.near.key.segment (course-tree k c.know_course.ensures) c.requires.last on

pub returns-in-Some-clause-begins : goal.returns-in-Some-clause-begins
returns-in-Some-clause-begins c =
    subst (λ (o : Option Near). IsBeginning c.args.course.now.plan o c.in-Some.near.key.segment) (sym c.in-Some.is) refl

pub returns-in-Some-clause-on : goal.returns-in-Some-clause-on
returns-in-Some-clause-on c =
    subst (λ (o : Option Near). IfSome o (λ n. IsOn c.args.course.now.plan c.args.last n.key.segment)) c.in-Some.is c.requires.chain

pub returns-in-Some-clause-early : goal.returns-in-Some-clause-early
returns-in-Some-clause-early c =
    let k = c.args.course.now in
    let on = subst (λ (o : Option Near). IfSome o (λ n. IsOn k.plan c.args.last n.key.segment)) c.in-Some.is c.requires.chain in
    on-early k.plan c.args.last c.in-Some.near.key.segment (course-tree k c.know_course.ensures) c.requires.last on

pub returns-in-None-clause-begins : goal.returns-in-None-clause-begins
returns-in-None-clause-begins c =
    subst (λ (o : Option Near). IsBeginning c.args.course.now.plan o c.first_on_chain.result) (sym c.in-None.is) c.first_on_chain.ensures.first
