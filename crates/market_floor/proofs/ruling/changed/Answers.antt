use Rattle.std.proofs.Common.{◌≡◌, ◌≤◌, ◌-◌, ℕ, List, [], drop, take, ap, ◌∙◌, sym, arith, append-nil}
use Rattle.std.proofs.lemmas.Slice.{between_is}
use Rattle.market_rules.specs.Changes.{dated_by}
use Rattle.market_rules.specs.declared.changes.Dated.{Dated}
use Rattle.exchange_agent.specs.State.{State}
use Rattle.market_floor.specs.declared.opening.Opening.{Opening}
use Rattle.market_floor.specs.Ruled.{all_changed, due}
use Rattle.market_floor.proofs.Changes.{none-due}
use Rattle.std.specs.Prelude.{◌++◌}
use Rattle.market_floor.proofs.ruling.changed.Goals as goal

slice-due : (dated xs : List Dated) (applied d count : ℕ) → xs ≡ dated → d ≡ count → take (d - applied) (drop applied xs) ≡ drop applied (take count dated)
slice-due dated xs applied d count same is = between_is xs applied d ∙ ap (λ (n : ℕ). drop applied (take n xs)) is ∙ ap (λ (ds : List Dated). drop applied (take count ds)) same

pub returns-clause-state : goal.returns-clause-state
returns-clause-state c =
    let o = c.args.o.now in
    let a = c.args.applied in
    let e : take (c.rules_at-due.result - a) (drop a c.as_slice.result.now) ≡ due o a c.args.time = slice-due o.dated c.as_slice.result.now a c.rules_at-due.result _ c.as_slice.ensures.value c.rules_at-due.ensures in
    c.in-Ok-change_all.ensures.state
    ∙ ap (λ (ds : List Dated). (all_changed ds c.in-Ok.copy).state) e
    ∙ ap (λ (s : State). (all_changed (due o a c.args.time) s).state) c.in-Ok.ensures

pub returns-clause-feed : goal.returns-clause-feed
returns-clause-feed c =
    let o = c.args.o.now in
    let a = c.args.applied in
    let e : take (c.rules_at-due.result - a) (drop a c.as_slice.result.now) ≡ due o a c.args.time = slice-due o.dated c.as_slice.result.now a c.rules_at-due.result _ c.as_slice.ensures.value c.rules_at-due.ensures in
    c.in-Ok-change_all.ensures.feed
    ∙ ap (λ (ds : List Dated). c.args.feed.now.list ++ (all_changed ds c.in-Ok.copy).feed) e
    ∙ ap (λ (s : State). c.args.feed.now.list ++ (all_changed (due o a c.args.time) s).feed) c.in-Ok.ensures

-- where none is due
none : (o : Opening) (applied time : ℕ) (due-here : ℕ) → due-here ≡ dated_by o.dated time → due-here ≤ applied → [] ≡ due o applied time
none o applied time due-here is le = sym (none-due o applied time (omega arith))

pub returns-then-due-applied-clause-state : goal.returns-then-due-applied-clause-state
returns-then-due-applied-clause-state c =
    let o = c.args.o.now in
    c.in-Ok.ensures ∙ ap (λ (ds : List Dated). (all_changed ds c.args.exchange.now).state) (none o c.args.applied c.args.time c.rules_at-due.result c.rules_at-due.ensures c.if-due-applied.true)

pub returns-then-due-applied-clause-feed : goal.returns-then-due-applied-clause-feed
returns-then-due-applied-clause-feed c =
    let o = c.args.o.now in
    let xs = c.args.feed.now.list in
    sym (append-nil xs) ∙ ap (λ (ds : List Dated). xs ++ (all_changed ds c.args.exchange.now).feed) (none o c.args.applied c.args.time c.rules_at-due.result c.rules_at-due.ensures c.if-due-applied.true)
