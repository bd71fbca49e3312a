use Rattle.std.proofs.Common.{◌≡◌, Result, Ok, Err, IfOk}
use Rattle.std.proofs.lemmas.Result.{IfOk-weaker}
use Rattle.abides_run.specs.Output.{study_events}
use Rattle.abides_run.proofs.simulate.simulate.Goals as goal

-- What follows of two facts of a call's answer.
both_ok : {X E : Type 0} (r : Result X E) (P Q S : X → Type 0) → ((x : X) → P x → Q x → S x) → IfOk r P → IfOk r Q → IfOk r S
both_ok (Ok x) P Q S f p q = f x p q
both_ok (Err e) P Q S f p q = tt

pub returns : goal.returns
unfolding study_events
returns g c =
    let k = c.args.simulation.now.study.course.value in
    let done = c.work.ensures in
    record {
      ran = IfOk-weaker c.work.result _ _ (λ w is. c.outcomes_are_a_run.ensures.run k c.args.keep w.outcomes.items is) done.outcomes;
      framed = λ keeps. IfOk-weaker c.work.result _ _ (λ w is. c.outcomes_are_a_run.ensures.framed k c.args.keep w.outcomes.items keeps is) done.outcomes;
      tallied = λ keeps. IfOk-weaker c.work.result _ _ (λ w is. c.outcomes_are_a_run.ensures.tallied k c.args.keep w.outcomes.items keeps is) done.outcomes;
      listed = λ keep. IfOk-weaker c.work.result _ _ (λ w is. c.outcomes_are_a_run.ensures.listed k w.outcomes.items (rw keep at is)) done.outcomes;
      shelf = both_ok c.work.result _ _ _ (λ w at once. record { plan = at.0; course = at.1; once = once }) done.shelf done.once;
      few = c.segments_have_few_events.ensures.all;
      rose = done.rose;
      least = done.least;
      most = done.most;
    }
