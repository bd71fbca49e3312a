use Rattle.std.proofs.Common.{ℕ, List, Option, None, Some, MatchOption, inl, inr, ap, ◌∙◌, subst}
use Rattle.branch_deques.specs.declared.rule.LaneView.{LaneView}
use Rattle.branch_deques.specs.Told.{EndTold, Stole}
use Rattle.branch_workers.proofs.worker.next_segment.Goals as goal

-- What follows of what an answer says, whether it is one or none.
either : {A : Type 0} (r : Option A) (P Q : Type 0) (F G : A → Type 0) → (P → Q) → ((x : A) → F x → G x) → MatchOption r P F → MatchOption r Q G
either None P Q F G none some is = none is
either (Some x) P Q F G none some is = some x is

pub returns-in-Some-clause-pushed : goal.returns-in-Some-clause-pushed
returns-in-Some-clause-pushed g c = ap (λ (v : LaneView). v.pushed) c.in-Some.ensures.taken.is

pub returns-in-Some-clause-taken : goal.returns-in-Some-clause-taken
returns-in-Some-clause-taken g c = inl (c.in-Some.ensures.taken, c.pop.ensures.others)

pub returns-clause-pushed : goal.returns-clause-pushed
returns-clause-pushed g c = ap (λ (e : EndTold). e.view.pushed) c.steal_round.ensures.own ∙ ap (λ (v : LaneView). v.pushed) c.in_default.ensures.taken

pub returns-clause-taken : goal.returns-clause-taken
returns-clause-taken g c =
    let own = ap (λ (e : EndTold). e.view) c.steal_round.ensures.own ∙ c.in_default.ensures.taken in
    let others = c.pop.ensures.others in
    either c.steal_round.result _ _ _ _
    (λ same. (own, same ∙ others))
    (λ segment stole. inr (own, subst (λ (ends : List EndTold). Stole g.B.Room.room segment ends c.steal_round.new.self.others) others stole))
    c.steal_round.ensures.taken
