use Rattle.std.proofs.Common.{◌≡◌, Bool, true, false, subst, rules}
use Rattle.std.specs.Prelude.{IfOk, OnErr, OnOk, Result, Ok, Err, not}
use Rattle.std.specs.Bool.{OnFalse}
use Rattle.exchange_agent.proofs.Agents.{has-seen, same-seen, with-seen}
use Rattle.exchange_agent.proofs.remembered.add.Goals as goal

on-ok : {A E : Type 0} (r : Result A E) (P Q : Type 0) → (P → Q) → OnOk r P → OnOk r Q
on-ok (Ok x) P Q f p = f p
on-ok (Err e) P Q f p = p

on-err : {A E : Type 0} (r : Result A E) (P Q : Type 0) → (P → Q) → OnErr r P → OnErr r Q
on-err (Ok x) P Q f p = p
on-err (Err e) P Q f p = f p

on-false : (b : Bool) (P Q : Type 0) → (P → Q) → OnFalse b P → OnFalse b Q
on-false true P Q f p = p
on-false false P Q f p = f p

if-ok : {E : Type 0} (r : Result Bool E) (P Q : Type 0) → (P → Q) → IfOk r (λ b. OnFalse b P) → IfOk r (λ b. OnFalse b Q)
if-ok (Ok b) P Q f p = on-false b P Q f p
if-ok (Err e) P Q f p = p

pub returns-clause-added : goal.returns-clause-added
returns-clause-added c =
    subst (λ (b : Bool). IfOk c.insert.result (λ added. added ≡ not b))
    (has-seen c.args.agent c.from-place.result c.args.token.now c.grow.new.agents.items _ c.index_mut.result.now (search rules) (search rules) (search rules) c.grow.ensures.same)
    c.insert.ensures.added

pub returns-clause-keys : goal.returns-clause-keys
returns-clause-keys c =
    on-ok c.insert.result _ _
    (with-seen c.args.agent c.from-place.result c.args.token.now c.grow.new.agents.items _ c.index_mut.result.now c.insert.new.self (search rules) (search rules) (search rules) c.grow.ensures.same)
    c.insert.ensures.tokens

pub returns-clause-unchanged : goal.returns-clause-unchanged
returns-clause-unchanged c =
    if-ok c.insert.result _ _
    (same-seen c.from-place.result c.grow.new.agents.items _ c.index_mut.result.now c.insert.new.self (search rules) c.grow.ensures.same)
    c.insert.ensures.unchanged

pub returns-clause-refused : goal.returns-clause-refused
returns-clause-refused c =
    on-err c.insert.result _ _
    (same-seen c.from-place.result c.grow.new.agents.items _ c.index_mut.result.now c.insert.new.self (search rules) c.grow.ensures.same)
    c.insert.ensures.refused
