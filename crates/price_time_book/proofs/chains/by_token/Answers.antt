use Rattle.std.proofs.Common.{◌≡◌, ◌<◌, ◌+◌, ◌-◌, get_or, subst, arith}
use Rattle.price_time_book.specs.Indexed.{nothing}
use Rattle.price_time_book.proofs.Befores.{IsLastSent, none_sent, sent_found, sent_left}
use Rattle.price_time_book.proofs.chains.by_token.Goals as goal

pub returns-then-at-eq0-clause-absent : goal.returns-then-at-eq0-clause-absent
returns-then-at-eq0-clause-absent c =
    let last : IsLastSent c.args.orders.now c.args.agent c.args.token.now.0 c.last_sent-at.result = record { within = c.last_sent-at.ensures.within; sent = c.last_sent-at.ensures.sent; after = c.last_sent-at.ensures.after } in
    none_sent c.args.orders.now c.args.agent c.args.token.now.0 (subst (IsLastSent c.args.orders.now c.args.agent c.args.token.now.0) c.if-at-eq0.true last)

pub returns-then-orders-place-eq0-clause-absent : goal.returns-then-orders-place-eq0-clause-absent
returns-then-orders-place-eq0-clause-absent c =
    let at = c.last_sent-at.result in
    let last : IsLastSent c.args.orders.now c.args.agent c.args.token.now.0 at = record { within = c.last_sent-at.ensures.within; sent = c.last_sent-at.ensures.sent; after = c.last_sent-at.ensures.after } in
    let more : at ≡ (at - 1) + 1 = omega (arith, c.if-at-eq0.false) in
    sent_left c.args.orders.now c.args.chains.now.lasts.items c.args.chains.now.befores.items c.args.agent c.args.token.now.0 (at - 1) c.requires (subst (IsLastSent c.args.orders.now c.args.agent c.args.token.now.0) more last) c.if-orders-place-eq0.true

pub returns-clause-found : goal.returns-clause-found
returns-clause-found c =
    let at = c.last_sent-at.result in
    let last : IsLastSent c.args.orders.now c.args.agent c.args.token.now.0 at = record { within = c.last_sent-at.ensures.within; sent = c.last_sent-at.ensures.sent; after = c.last_sent-at.ensures.after } in
    let more : at ≡ (at - 1) + 1 = omega (arith, c.if-at-eq0.false) in
    let open_there : 0 < (get_or c.args.orders.now (at - 1) nothing).left = omega (arith, c.if-orders-place-eq0.false) in
    sent_found c.args.orders.now c.args.chains.now.lasts.items c.args.chains.now.befores.items c.args.agent c.args.token.now.0 (at - 1) c.requires (subst (IsLastSent c.args.orders.now c.args.agent c.args.token.now.0) more last) open_there
