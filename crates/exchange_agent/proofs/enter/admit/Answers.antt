use Rattle.std.proofs.Common.{◌≡◌, ◌≤◌, ◌<◌, ◌+◌, ℕ, pos, List, All, length, true, arith, ap, ◌∙◌, sym, subst, false}
use Rattle.std.specs.Prelude.{nat_le, ◌&&◌, ◌==◌}
use Rattle.std.proofs.lemmas.Bool.Decides.{nat_tests}
use Rattle.std.proofs.lemmas.List.Elements.{All-weaker}
use Rattle.price_time_book.specs.declared.resting.Resting.{Resting}
use Rattle.price_time_book.specs.Orders.{order_of}
use Rattle.exchange_agent.specs.declared.handled.Handled.{Handled}
use Rattle.exchange_agent.specs.declared.pair.Pair.{Pair}
use Rattle.exchange_agent.specs.Pairs.{has_pair, pair_of, with_pair}
use Rattle.exchange_agent.specs.Sound.{IsSmall, IsSoundStock, is_known, is_trader}
use Rattle.exchange_agent.specs.View.{stock_of, way_at}
use Rattle.exchange_agent.proofs.Accepts.{lacks-known, later-known, sound-traded, started, traders-known, money-traded}
use Rattle.exchange_agent.proofs.Admissions.{not-there}
use Rattle.exchange_agent.proofs.Agents.{has-with_pair}
use Rattle.exchange_agent.proofs.Knowns.{and-both, known-more}
use Rattle.exchange_agent.proofs.Withins.{small-more}
use Rattle.exchange_agent.proofs.enter.admit.Goals as goal
use Rattle.exchange_agent.proofs.enter.admit.Goals.{After-trade}

pub trade-requires-clause-resting : goal.trade-requires-clause-resting
trade-requires-clause-resting c =
    let n = length c.args.cash.now.items in
    subst (λ (b : List Resting). All (λ (o : Resting). is_trader n o ≡ true) b) (sym c.reserve-2.ensures.list)
    (traders-known n c.args.counts.now.orders c.args.pairs.now.keys c.args.listing.now.book.list c.requires.stock.known)

pub trade-requires-clause-later : goal.trade-requires-clause-later
trade-requires-clause-later c =
    subst (λ (b : List Resting). All (λ (o : Resting). o.reference < c.args.counts.now.orders + 1) b) (sym c.reserve-2.ensures.list)
    (later-known (length c.args.cash.now.items) c.args.counts.now.orders c.args.pairs.now.keys c.args.listing.now.book.list c.requires.stock.known)

pub trade-requires-clause-fresh : goal.trade-requires-clause-fresh
trade-requires-clause-fresh c =
    let agent = c.args.taking.now.agent in
    let token = c.args.e.now.token in
    let book = c.args.listing.now.book.list in
    let new : has_pair (pair_of agent token) c.args.pairs.now.keys ≡ false = not-there _ _ c.in-Ok-insert.ensures.added c.if-not-new.false in
    ap (λ (b : List Resting). order_of agent token b) c.reserve-2.ensures.list
    ∙ c.changes_keep.ensures.lacks agent token book (lacks-known (length c.args.cash.now.items) c.args.counts.now.orders agent token c.args.pairs.now.keys book new c.requires.stock.known)

trader-is : (n agent : ℕ) → 1 ≤ agent → agent ≤ n → (nat_le 1 agent && nat_le agent n) ≡ true
trader-is n agent low high = grind (arith, nat_tests)

at_most-self : (n : ℕ) → nat_le n n ≡ true
at_most-self n = grind (arith, nat_tests)

pub trade-requires-clause-small : goal.trade-requires-clause-small
trade-requires-clause-small c =
    let fee : c.reply.new.self.fee ≡ pos 0 = ap (λ (h : Handled). h.fee) c.reply.ensures ∙ c.reserve.ensures.fee ∙ c.requires.no_fee in
    small-more c.args.counts.now.orders 131072 0 (way_at (record c.args.listing.now { book = c.reserve-2.new.self }) c.args.cash.now.items c.args.counts.now.matches c.reply.new.self) (omega (arith, c.requires.some_orders))
    (started c.args.listing.now c.reserve-2.new.self c.args.cash.now.items c.args.pairs.now.keys c.args.counts.now.orders c.args.counts.now.matches c.reply.new.self c.requires.stock c.reserve-2.ensures.list c.requires.money c.requires.matches fee)

ending : (c : After-trade) → IsSmall c.args.counts.now.orders c.args.e.now.shares (way_at c.trade.new.self c.trade.new.cash.items c.trade.new.matches c.trade.new.out)
ending c =
    let fee : c.reply.new.self.fee ≡ pos 0 = ap (λ (h : Handled). h.fee) c.reply.ensures ∙ c.reserve.ensures.fee ∙ c.requires.no_fee in
    c.trade.ensures.small c.args.counts.now.orders
    (started c.args.listing.now c.reserve-2.new.self c.args.cash.now.items c.args.pairs.now.keys c.args.counts.now.orders c.args.counts.now.matches c.reply.new.self c.requires.stock c.reserve-2.ensures.list c.requires.money c.requires.matches fee)

pub returns-clause-matches : goal.returns-clause-matches
returns-clause-matches c = let h = (ending c).matches in omega (arith, h, c.requires.few)

pub returns-clause-money : goal.returns-clause-money
returns-clause-money c = money-traded c.args.counts.now.orders c.args.e.now.shares (way_at c.trade.new.self c.trade.new.cash.items c.trade.new.matches c.trade.new.out) c.requires.few (ending c)

pub returns-clause-stock : goal.returns-clause-stock
returns-clause-stock c =
    let n = length c.args.cash.now.items in
    let orders = c.args.counts.now.orders in
    let pairs = c.args.pairs.now.keys in
    let after = c.insert.new.self.keys in
    let agent = c.args.taking.now.agent in
    let e = c.args.e.now in
    let pair = pair_of agent e.token in
    let v = way_at c.trade.new.self c.trade.new.cash.items c.trade.new.matches c.trade.new.out in
    let keys : after ≡ with_pair pair pairs = c.in-Ok-insert.ensures.keys in
    let new : has_pair pair after ≡ true = subst (λ (ps : List Pair). has_pair pair ps ≡ true) (sym keys) (has-with_pair pair pairs) in
    let p = is_known n (orders + 1) after in
    let old : All (λ (o : Resting). p o ≡ true) c.args.listing.now.book.list =
    subst (λ (ps : List Pair). All (λ (o : Resting). is_known n (orders + 1) ps o ≡ true) c.args.listing.now.book.list) (sym keys)
    (All-weaker (λ (o : Resting). is_known n orders pairs o ≡ true) (λ (o : Resting). is_known n (orders + 1) (with_pair pair pairs) o ≡ true) (λ o q. known-more n orders (orders + 1) pairs pair o (omega arith) q) c.args.listing.now.book.list c.requires.stock.known) in
    let old-here : All (λ (o : Resting). p o ≡ true) c.reserve-2.new.self.list = subst (λ (b : List Resting). All (λ (o : Resting). p o ≡ true) b) (sym c.reserve-2.ensures.list) old in
    let known : All (λ (o : Resting). p o ≡ true) c.trade.new.self.book.list =
    c.trade.ensures.tested p (λ o left le q. q)
    (λ left. and-both (is_trader n (record { reference = orders + 1; agent = agent; token = e.token; side = e.side; price = e.price; intended = e.shares; left = left; tif = e.tif; shown = e.display == 89 })) (nat_le (orders + 1) (orders + 1) && has_pair pair after) (trader-is n agent c.requires.trader c.requires.exists) (and-both (nat_le (orders + 1) (orders + 1)) (has_pair pair after) (at_most-self (orders + 1)) new)) old-here in
    let long : length c.reserve-2.new.self.list ≡ length c.args.listing.now.book.list = ap (λ (b : List Resting). length b) c.reserve-2.ensures.list in
    let fit : length c.trade.new.self.book.list ≤ orders + 1 = omega (arith, c.trade.ensures.few, long, c.requires.stock.few) in
    subst (λ (m : ℕ). IsSoundStock m (orders + 1) after (stock_of c.trade.new.self)) (sym c.trade.ensures.same)
    (sound-traded n orders e.shares after v c.requires.few (ending c) known fit (c.trade.ensures.traders ∙ c.requires.stock.traders))
