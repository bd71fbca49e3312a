use Rattle.std.proofs.Common.{◌≡◌, ◌-◌, ◌∙◌, get_or, sym, subst, arith}
use Rattle.std.proofs.lemmas.List.{get_or_default}
use Rattle.price_time_book.proofs.Befores.{IsWalked, walk-begins, walk-goes_on}
use Rattle.price_time_book.proofs.chains.last_sent.Goals as goal

pub loop-at-init : goal.loop-at-init
loop-at-init c = record {
  walked = subst (IsWalked c.args.orders.now c.args.agent c.args.token.now.0) (sym c.last_of-at.ensures) (walk-begins c.args.orders.now c.args.chains.now.lasts.items c.args.chains.now.befores.items c.args.agent c.args.token.now.0 c.requires);
}

pub loop-at-preserved : goal.loop-at-preserved
loop-at-preserved c =
    let some = c.goes_on.ensures.some c.loop-at-test.true in
    let next = walk-goes_on c.args.orders.now c.args.chains.now.lasts.items c.args.chains.now.befores.items c.args.agent c.args.token.now.0 c.loop-at.at c.requires c.loop-at.invariant.walked some (λ k. c.goes_on.ensures.passes k c.loop-at-test.true) in
    let w = c.loop-at.invariant.walked in
    let value : c.index-at.result.now ≡ get_or c.args.chains.now.befores.items (c.loop-at.at - 1) 0 = c.index-at.ensures ∙ get_or_default c.args.chains.now.befores.items (c.loop-at.at - 1) c.index-at.result.now 0 (omega (arith, c.requires.same, w.within, some)) in
    record { walked = subst (IsWalked c.args.orders.now c.args.agent c.args.token.now.0) (sym value) next.1 }

pub loop-at-smaller : goal.loop-at-smaller
loop-at-smaller c =
    let some = c.goes_on.ensures.some c.loop-at-test.true in
    let next = walk-goes_on c.args.orders.now c.args.chains.now.lasts.items c.args.chains.now.befores.items c.args.agent c.args.token.now.0 c.loop-at.at c.requires c.loop-at.invariant.walked some (λ k. c.goes_on.ensures.passes k c.loop-at-test.true) in
    let w = c.loop-at.invariant.walked in
    let value : c.index-at.result.now ≡ get_or c.args.chains.now.befores.items (c.loop-at.at - 1) 0 = c.index-at.ensures ∙ get_or_default c.args.chains.now.befores.items (c.loop-at.at - 1) c.index-at.result.now 0 (omega (arith, c.requires.same, w.within, some)) in
    omega (arith, next.0, value)
