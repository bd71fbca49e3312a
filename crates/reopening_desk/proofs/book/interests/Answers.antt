use Rattle.std.proofs.Common.{◌≡◌, ◌≤◌, ◌∙◌, ◌++◌, ◌∷◌, [], All, List, ap, length, map, subst, sym}
use Rattle.std.proofs.lemmas.List.{take_all}
use Rattle.exchange_agent.specs.State.{State as Exchange, stock_at}
use Rattle.reopen_cross.specs.declared.cross.Interest.{Interest}
use Rattle.reopen_cross.specs.Orderly.{AreInterests}
use Rattle.reopening_desk.specs.Reopened.{interest_of}
use Rattle.reopening_desk.proofs.Interests.{are-interests, few-interests, last-interests, one-more}
use Rattle.reopening_desk.proofs.book.interests.Goals as goal

pub loop-order-preserved : goal.loop-order-preserved
loop-order-preserved c =
    let list = c.loop-order.list.items in
    c.in_ok-push.ensures.items ∙ ap (λ (x : Interest). list ++ x ∷ []) c.interest_of.ensures
    ∙ one-more c.as_slice-order-items.result.now c.loop-order.order-index _ list c.loop-order-test.true c.loop-order.invariant

-- all orders of the book were taken
all-taken : (c : goal.After-drop-orders-2) → c.loop-order.list.items ≡ map interest_of (stock_at c.args.exchange.now c.args.stock).book
all-taken c =
    c.loop-order.invariant ∙ ap (map interest_of) (take_all c.loop-order.order-index c.as_slice-order-items.result.now c.loop-order-test.false)
    ∙ ap (map interest_of) (c.as_slice-order-items.ensures.value ∙ c.in_ok-orders.ensures)

pub returns-clause-same : goal.returns-clause-same
returns-clause-same c = all-taken c

pub returns-clause-few : goal.returns-clause-few
returns-clause-few c =
    let x : Exchange = c.args.exchange.now in
    subst (λ (xs : List Interest). length xs ≤ 16384) (sym (all-taken c)) (few-interests x.counts.orders (stock_at x c.args.stock).book c.requires.resting)

pub returns-clause-last : goal.returns-clause-last
returns-clause-last c =
    let x : Exchange = c.args.exchange.now in
    subst (λ (xs : List Interest). All (λ (o : Interest). o.reference ≤ x.counts.orders) xs) (sym (all-taken c)) (last-interests x.counts.orders (stock_at x c.args.stock).book c.requires.resting)

pub returns-clause-interests : goal.returns-clause-interests
returns-clause-interests c =
    let x : Exchange = c.args.exchange.now in
    subst AreInterests (sym (all-taken c)) (are-interests x.counts.orders (stock_at x c.args.stock).book c.requires.resting)
