use Rattle.std.proofs.Common.{rules, ◌≡◌, ◌<◌, length, true, Some, arith}
use Rattle.std.specs.Prelude.{nat_lt}
use Rattle.std.proofs.lemmas.Bool.Decides.{nat_tests}
use Rattle.agent_shell.specs.Ordered.{sent_price}
use Rattle.agent_shell.proofs.Differ.{next_is_fresh}
use Rattle.agent_shell.proofs.Kept.{placed-own}
use Rattle.agent_shell.proofs.placing.send.Goals as goal

pub join-requires-clause-fresh : goal.join-requires-clause-fresh
join-requires-clause-fresh c =
    let o = c.args.shell.now.orders in
    rw (c.next_token-token.ensures.token, c.next_token-token.ensures.given) (next_is_fresh o.agent o.tokens o.own c.requires.tokens c.requires.own.given)

pub returns-clause-own : goal.returns-clause-own
returns-clause-own c =
    let o = c.args.shell.now.orders in
    let few : length o.own < 64 = omega (arith, c.open_len.ensures, c.if-open_len-ge-MOST_OWN.false) in
    let placed = placed-own o c.args.wish.side c.args.wish.shares c.requires.own few in
    rw (c.in-Ok.ensures.joined, c.next_token-token.ensures.token, c.next_token-token.ensures.given) placed

pub returns-clause-orders : goal.returns-clause-orders
returns-clause-orders c =
    let o = c.args.shell.now.orders in
    let few : nat_lt (length o.own) 64 ≡ true = grind (arith, nat_tests, c.open_len.ensures, c.if-open_len-ge-MOST_OWN.false) in
    let price : sent_price c.args.wish.price ≡ Some c.in-Some.price = search (rules, c.sent_price.ensures, c.in-Some.is) in
    rw (c.in-Ok.ensures.joined, c.next_token-token.ensures.token, c.next_token-token.ensures.given, few, price)
