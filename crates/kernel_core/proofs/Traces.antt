-- Runs that are kept in a trace.
use Rattle.std.proofs.Common.{◌≡◌, ℕ, ◌+◌, ◌-◌, List, None, Result, Ok, Err, OnOk, OnErr, IfOk, All, sym, ap, ◌∙◌, subst, arith, inl, inr}
use Rattle.std.specs.List.{AllByRecursion}
use Rattle.market_types.specs.Told.{EntryTold}
use Rattle.market_types.specs.Timely.{IsTimely}
use Rattle.market_floor.specs.declared.opening.Opening.{Opening}
use Rattle.kernel_core.specs.declared.stepped.Stepped.{Stepped}
use Rattle.kernel_core.specs.Seen.{IsEvent, folded, listed}
use Rattle.kernel_core.specs.State.{State}
use Rattle.kernel_core.specs.Step.{answer_by, end_of, raised}
use Rattle.kernel_core.specs.Until.{Run, advanced, advanced_by}
use Rattle.kernel_core.proofs.Fresh.{between, traced-by, traced-timely}
use Rattle.kernel_core.proofs.Runs.{advanced_ended}
use Rattle.kernel_core.proofs.Stops.{end_cases}

-- two facts of an `Ok` make a third one
pub both-ok : {X E A B C : Type 0} (r : Result X E) → (A → B → C) → OnOk r A → OnOk r B → OnOk r C
both-ok (Ok x) f a b = f a b
both-ok (Err e) f a b = tt

-- what a keeper that refuses nothing leaves after an `Err`
pub sure-err : {X E A B : Type 0} (r : Result X E) → (A → B) → OnErr r (Unit {0} → A) → OnErr r B
sure-err (Ok x) f a = tt
sure-err (Err e) f a = f (a tt)

answered-one : (o : Opening) (s q : State) (a : Stepped) → a ≡ answer_by s (end_of o s) → q.events ≡ s.events + raised a → end_of o s ≡ None → q.events - s.events ≡ 1
answered-one o s q a is events going =
    let one : raised a ≡ 1 = ap raised is ∙ ap (λ x. raised (answer_by s x)) going in
    omega (arith, one, events)

-- one event more in a trace, or none
step_made : (o : Opening) (s q : State) (xs ys : List EntryTold) (a : Stepped) → q ≡ (between o s q).state → a ≡ answer_by s (end_of o s) → q.events ≡ s.events + raised a
    → ys ≡ folded listed xs (between o s q).entries → ◌≡◌ {A = Run} (record { state = q; entries = ys }) (advanced o (record { state = s; entries = xs }))
step_made o s q xs ys a made is events kept =
    let r : Run = record { state = s; entries = xs } in
    let whole = traced-by (q.events - s.events) o s q xs ys made kept in
    elim (end_cases (end_of o s)) [
      | inl going ↦ whole ∙ ap (λ (n : ℕ). advanced_by n o r) (answered-one o s q a is events going)
      | inr over ↦
          let none : raised a ≡ 0 = ap raised is ∙ ap (λ x. raised (answer_by s x)) over.1 in
          let same : q.events - s.events ≡ 0 = omega (arith, none, events) in
          whole ∙ ap (λ (n : ℕ). advanced_by n o r) same ∙ sym (advanced_ended o r over.0 over.1)
    ]

pub step-made : {E : Type 0} (o : Opening) (s q : State) (xs ys : List EntryTold) (r : Result Stepped E) → q ≡ (between o s q).state
    → IfOk r (λ a. a ≡ answer_by s (end_of o s)) → IfOk r (λ a. q.events ≡ s.events + raised a) → OnOk r (ys ≡ folded listed xs (between o s q).entries)
    → OnOk r (◌≡◌ {A = Run} (record { state = q; entries = ys }) (advanced o (record { state = s; entries = xs })))
step-made o s q xs ys (Ok a) made is events kept = step_made o s q xs ys a made is events kept
step-made o s q xs ys (Err e) made is events kept = tt

-- a trace stays timely, whatever a step answers
pub step-timely : {X E : Type 0} (xs ys es : List EntryTold) (r : Result X E) → OnOk r (ys ≡ folded listed xs es) → OnErr r (Unit {0} → ys ≡ xs)
    → AllByRecursion IsEvent es → All IsTimely es → All IsTimely xs → All IsTimely ys
step-timely xs ys es (Ok x) kept refused a new old = traced-timely xs ys es a kept new old
step-timely xs ys es (Err e) kept refused a new old = subst (λ (zs : List EntryTold). All IsTimely zs) (sym (refused tt)) old
