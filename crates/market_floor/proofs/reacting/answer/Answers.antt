use Rattle.std.proofs.Common.{◌≤◌, ◌+◌, ◌*◌, List, All, length, arith, subst, sym}
use Rattle.exchange_agent.specs.declared.handled.Outgoing.{Outgoing}
use Rattle.exchange_agent.specs.Market.{IsAskable, market}
use Rattle.exchange_agent.specs.State.{State}
use Rattle.market_floor.specs.declared.posting.Posting.{Posting}
use Rattle.market_floor.specs.Reaction.{ArePosted}
use Rattle.market_floor.proofs.Changes.{IsShort}
use Rattle.market_floor.proofs.Posts.{replies-posted}
use Rattle.market_floor.proofs.reacting.answer.Goals as goal

pub returns-clause-posted : goal.returns-clause-posted
returns-clause-posted c =
    let s = c.args.exchange.now in
    let m = c.args.m.now in
    let n = length s.stocks in
    let rs = (market s m.time m.from m.body).replies in
    let few : length rs ≤ 2 * 1000000 + 2 = c.books_stay_short.ensures.replies s m.time m.from 1000000 m.body c.requires.books in
    let asks : All (λ (r : Outgoing). IsAskable n r.body) rs = c.replies_ask_nothing.ensures s m.time m.from n m.body in
    subst (λ (xs : List Posting). ArePosted (length s.cash) n m xs) (sym c.in_ok-fee.ensures.postings)
    (replies-posted (length s.cash) n m rs c.requires.receiver c.in_ok-fee.ensures.receivers asks (omega (arith, few)))

pub returns-clause-books : goal.returns-clause-books
returns-clause-books c =
    let s = c.args.exchange.now in
    let m = c.args.m.now in
    λ n h. subst (λ (q : State). All (IsShort (n + 1)) q.stocks) (sym c.in_ok-fee.ensures.exchange) (c.books_stay_short.ensures.books s m.time m.from n m.body h)
