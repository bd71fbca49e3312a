use Rattle.std.proofs.Common.{◌≡◌, ◌≤◌, ◌<◌, ◌+◌, ◌-◌, ℕ, List, [], All, length, true, arith, ap, ◌∙◌, sym, subst}
use Rattle.market_types.specs.declared.order.Side.{Side}
use Rattle.price_time_book.specs.declared.resting.Resting.{Resting}
use Rattle.price_time_book.specs.Matched.{matched}
use Rattle.price_time_book.specs.Orders.{order_of}
use Rattle.exchange_agent.specs.Enter.{remainder}
use Rattle.exchange_agent.specs.Settle.{Way, all_settled}
use Rattle.exchange_agent.specs.Sound.{IsSmall}
use Rattle.exchange_agent.specs.View.{way_at}
use Rattle.exchange_agent.proofs.Ways.{small-remainder, small-shares}
use Rattle.exchange_agent.proofs.listing.Listing.trade.Goals as goal

pub cross-left-requires-clause-room : goal.cross-left-requires-clause-room
cross-left-requires-clause-room c = omega (arith, c.requires.room)

pub cross-left-requires-clause-feed_room : goal.cross-left-requires-clause-feed_room
cross-left-requires-clause-feed_room c = omega (arith, c.requires.feed_room)

pub leave-requires-clause-later : goal.leave-requires-clause-later
leave-requires-clause-later c =
    let book = c.args.self.now.book.list in
    let t = c.args.taking.now in
    let e = c.args.e.now in
    subst (λ (b : List Resting). All (λ (o : Resting). o.reference < c.args.reference) b) (sym c.cross-left.ensures.book)
    (c.a_match_keeps.ensures.references c.args.reference t.side e.price (record { fills = []; book = book; shares = e.shares }) c.requires.later)

pub leave-requires-clause-fresh : goal.leave-requires-clause-fresh
leave-requires-clause-fresh c =
    let book = c.args.self.now.book.list in
    let t = c.args.taking.now in
    let e = c.args.e.now in
    ap (λ (b : List Resting). order_of t.agent e.token b) c.cross-left.ensures.book
    ∙ c.a_match_keeps.ensures.tokens t.agent e.token t.side e.price (record { fills = []; book = book; shares = e.shares }) c.requires.fresh

pub leave-requires-clause-some_orders : goal.leave-requires-clause-some_orders
leave-requires-clause-some_orders c =
    let book = c.args.self.now.book.list in
    let t = c.args.taking.now in
    let e = c.args.e.now in
    let same : length c.cross-left.new.self.book.list ≡ length (matched book t.side e.price e.shares).book = ap (λ (b : List Resting). length b) c.cross-left.ensures.book in
    let fewer : length (matched book t.side e.price e.shares).book ≤ length book = c.a_match_keeps.ensures.length t.side e.price (record { fills = []; book = book; shares = e.shares }) in
    omega (arith, same, fewer, c.requires.some_orders)

pub leave-requires-clause-room : goal.leave-requires-clause-room
leave-requires-clause-room c = omega (arith, c.requires.room, c.cross-left.ensures.room)

pub leave-requires-clause-feed_room : goal.leave-requires-clause-feed_room
leave-requires-clause-feed_room c = omega (arith, c.requires.feed_room, c.cross-left.ensures.feed_room)

pub returns-clause-way : goal.returns-clause-way
returns-clause-way c =
    let book = c.args.self.now.book.list in
    let t = c.args.taking.now in
    let e = c.args.e.now in
    let r = c.args.reference in
    let w = way_at c.args.self.now c.args.cash.now.items c.args.matches.now c.args.out.now in
    let v = way_at c.cross-left.new.self c.cross-left.new.cash.items c.cross-left.new.matches c.cross-left.new.out in
    c.leave.ensures.way c.cross-left.new.cash.items c.cross-left.new.matches
    ∙ ap (λ (n : ℕ). remainder t e r n v) c.cross-left.ensures.left
    ∙ ap (λ (x : Way). remainder t e r (matched book t.side e.price e.shares).shares x) c.cross-left.ensures.way
    ∙ ap (λ (s : Side). remainder t e r (matched book s e.price e.shares).shares (all_settled t (matched book s e.price e.shares).fills w)) c.requires.same_side

pub returns-clause-small : goal.returns-clause-small
returns-clause-small c = λ orders h.
    let t = c.args.taking.now in
    let e = c.args.e.now in
    let v = way_at c.cross-left.new.self c.cross-left.new.cash.items c.cross-left.new.matches c.cross-left.new.out in
    subst (λ (x : Way). IsSmall orders e.shares x) (sym (c.leave.ensures.way c.cross-left.new.cash.items c.cross-left.new.matches))
    (small-remainder orders e.shares t e c.args.reference c.cross-left.result v (small-shares orders (e.shares - c.cross-left.result) e.shares v (omega arith) (c.cross-left.ensures.small orders h)))

pub returns-clause-few : goal.returns-clause-few
returns-clause-few c =
    let book = c.args.self.now.book.list in
    let t = c.args.taking.now in
    let e = c.args.e.now in
    let same : length c.cross-left.new.self.book.list ≡ length (matched book t.side e.price e.shares).book = ap (λ (b : List Resting). length b) c.cross-left.ensures.book in
    let fewer : length (matched book t.side e.price e.shares).book ≤ length book = c.a_match_keeps.ensures.length t.side e.price (record { fills = []; book = book; shares = e.shares }) in
    omega (arith, same, fewer, c.leave.ensures.few)

pub returns-clause-tested : goal.returns-clause-tested
returns-clause-tested c = λ p kept new all.
    let book = c.args.self.now.book.list in
    let t = c.args.taking.now in
    let e = c.args.e.now in
    c.leave.ensures.tested p (new c.cross-left.result)
    (subst (λ (b : List Resting). All (λ (o : Resting). p o ≡ true) b) (sym c.cross-left.ensures.book)
    (c.a_match_keeps.ensures.tested p kept t.side e.price (record { fills = []; book = book; shares = e.shares }) all))
