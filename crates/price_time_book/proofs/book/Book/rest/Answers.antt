use Rattle.std.proofs.Common.{◌≡◌, ◌+◌, None, ◌<◌, ◌≤◌, ◌++◌, ◌∷◌, [], All, List, length, sym, ap, ◌∙◌, subst, refl, arith, rules}
use Rattle.std.proofs.lemmas.List.Sums.{count_by-le-length}
use Rattle.market_types.specs.Room.{Room}
use Rattle.market_types.specs.declared.order.Side.{Side}
use Rattle.market_types.specs.declared.order.Side.TheVariants.{Buy, Sell}
use Rattle.price_time_book.specs.declared.resting.Resting.{Resting}
use Rattle.price_time_book.specs.Chains.{IsChained}
use Rattle.price_time_book.specs.Index.{IsByReference}
use Rattle.price_time_book.specs.Indexed.{IsIndexed, IsSmall, open_orders}
use Rattle.price_time_book.specs.Orders.{order_of}
use Rattle.price_time_book.specs.Queues.{hidden_of, shown_of}
use Rattle.price_time_book.specs.Sides.{depth_of, is_on}
use Rattle.price_time_book.proofs.Counts.{depth-push_off, depth-push_on}
use Rattle.price_time_book.specs.Orderly.{IsOrderly}
use Rattle.price_time_book.proofs.Changes.{each-push, orderly-push}
use Rattle.price_time_book.proofs.Joins.{open_orders-push}
use Rattle.price_time_book.proofs.Takes.{levels_fit, others_buy, others_sell}
use Rattle.price_time_book.proofs.book.Book.rest.Goals as goal

pub join-requires-clause-shown_small : goal.join-requires-clause-shown_small
join-requires-clause-shown_small c =
    let k = c.self.inside in
    let few : length (open_orders k.orders.items) < 4294967296 = subst (λ (r : Room Resting). length r.list < 4294967296) (sym c.self.view_is) c.requires.few in
    levels_fit (shown_of Buy) k.orders.items k.nexts.items k.buys.shown.items c.self.invariant.buys c.self.invariant.small few

pub join-requires-clause-shown : goal.join-requires-clause-shown
join-requires-clause-shown c =
    let k = c.self.inside in
    subst (λ (s : Side). IsIndexed (shown_of s) k.orders.items k.nexts.items k.buys.shown.items) (sym c.in-Buy.is) c.self.invariant.buys

pub join-requires-clause-hidden_small : goal.join-requires-clause-hidden_small
join-requires-clause-hidden_small c =
    let k = c.self.inside in
    let few : length (open_orders k.orders.items) < 4294967296 = subst (λ (r : Room Resting). length r.list < 4294967296) (sym c.self.view_is) c.requires.few in
    levels_fit (hidden_of Buy) k.orders.items k.nexts.items k.buys.hidden.items c.self.invariant.hidden_buys c.self.invariant.small few

pub join-requires-clause-hidden : goal.join-requires-clause-hidden
join-requires-clause-hidden c =
    let k = c.self.inside in
    subst (λ (s : Side). IsIndexed (hidden_of s) k.orders.items k.nexts.items k.buys.hidden.items) (sym c.in-Buy.is) c.self.invariant.hidden_buys

pub invariant_of-self : goal.invariant_of-self
invariant_of-self c =
    let k = c.self.inside in
    let order = c.args.order in
    let few : length (open_orders k.orders.items) < 4294967296 = subst (λ (r : Room Resting). length r.list < 4294967296) (sym c.self.view_is) c.requires.few in
    let later = subst (λ (r : Room Resting). All (λ (o : Resting). o.reference < order.reference) r.list) (sym c.self.view_is) c.requires.later in
    let fresh = subst (λ (r : Room Resting). order_of order.agent order.token r.list ≡ None) (sym c.self.view_is) c.requires.fresh in
    let list : open_orders c.join.new.orders.items ≡ open_orders k.orders.items ++ order ∷ [] = ap open_orders c.join.ensures.orders ∙ open_orders-push k.orders.items order c.requires.shares in
    record {
      orders_room = search rules;
      nexts_room = search rules;
      buys_room = search rules;
      sells_room = search rules;
      hidden_buys_room = search rules;
      hidden_sells_room = search rules;
      references_room = search rules;
      befores_room = search rules;
      lasts_begun = search rules;
      lasts_long = search rules;
      buy_count = ap (λ n. n + 1) (c.join.ensures.count ∙ c.self.invariant.buy_count) ∙ sym (depth-push_on Buy (open_orders k.orders.items) order c.in-Buy.is) ∙ ap (depth_of Buy) (sym list);
      sell_count = c.self.invariant.sell_count ∙ sym (depth-push_off Sell (open_orders k.orders.items) order (λ q. others_buy order.side c.in-Buy.is (sym q))) ∙ ap (depth_of Sell) (sym list);
      references = subst (λ (w : List Resting). IsByReference w c.enter_reference.new.entries.items) (sym c.join.ensures.orders) (c.enter_reference.ensures.indexed k.orders.items (search rules) c.self.invariant.references later);
      chained = subst (λ (w : List Resting). IsChained w c.enter_token.new.chains.lasts.items c.enter_token.new.chains.befores.items) (sym c.join.ensures.orders) (c.enter_token.ensures.chained k.orders.items c.self.invariant.chained fresh);
      buys = subst (λ (s : Side). IsIndexed (shown_of s) c.join.new.orders.items c.join.new.nexts.items c.join.new.half.shown.items) c.in-Buy.is c.join.ensures.shown;
      hidden_buys = subst (λ (s : Side). IsIndexed (hidden_of s) c.join.new.orders.items c.join.new.nexts.items c.join.new.half.hidden.items) c.in-Buy.is c.join.ensures.hidden;
      sells = c.join.ensures.others (shown_of Sell) k.sells.shown.items (others_buy order.side c.in-Buy.is) c.self.invariant.sells;
      hidden_sells = c.join.ensures.others (hidden_of Sell) k.sells.hidden.items (others_buy order.side c.in-Buy.is) c.self.invariant.hidden_sells;
      orderly = subst IsOrderly (sym list) (orderly-push (open_orders k.orders.items) order c.self.invariant.orderly c.requires.shares c.requires.intended few later);
      small = subst IsSmall (sym list) (each-push (λ (o : Resting). o.left ≤ 4294967295) (open_orders k.orders.items) order c.self.invariant.small c.fits.ensures);
    }

pub returns-in-Buy : goal.returns-in-Buy
returns-in-Buy c =
    rw (c.join.ensures.orders, open_orders-push c.self.inside.orders.items c.args.order c.requires.shares, ← c.self.view_is) refl

pub join-requires-in-Sell-clause-shown_small : goal.join-requires-in-Sell-clause-shown_small
join-requires-in-Sell-clause-shown_small c =
    let k = c.self.inside in
    let few : length (open_orders k.orders.items) < 4294967296 = subst (λ (r : Room Resting). length r.list < 4294967296) (sym c.self.view_is) c.requires.few in
    levels_fit (shown_of Sell) k.orders.items k.nexts.items k.sells.shown.items c.self.invariant.sells c.self.invariant.small few

pub join-requires-in-Sell-clause-shown : goal.join-requires-in-Sell-clause-shown
join-requires-in-Sell-clause-shown c =
    let k = c.self.inside in
    subst (λ (s : Side). IsIndexed (shown_of s) k.orders.items k.nexts.items k.sells.shown.items) (sym c.in-Sell.is) c.self.invariant.sells

pub join-requires-in-Sell-clause-hidden_small : goal.join-requires-in-Sell-clause-hidden_small
join-requires-in-Sell-clause-hidden_small c =
    let k = c.self.inside in
    let few : length (open_orders k.orders.items) < 4294967296 = subst (λ (r : Room Resting). length r.list < 4294967296) (sym c.self.view_is) c.requires.few in
    levels_fit (hidden_of Sell) k.orders.items k.nexts.items k.sells.hidden.items c.self.invariant.hidden_sells c.self.invariant.small few

pub join-requires-in-Sell-clause-hidden : goal.join-requires-in-Sell-clause-hidden
join-requires-in-Sell-clause-hidden c =
    let k = c.self.inside in
    subst (λ (s : Side). IsIndexed (hidden_of s) k.orders.items k.nexts.items k.sells.hidden.items) (sym c.in-Sell.is) c.self.invariant.hidden_sells

pub invariant_of-self-in-Sell : goal.invariant_of-self-in-Sell
invariant_of-self-in-Sell c =
    let k = c.self.inside in
    let order = c.args.order in
    let few : length (open_orders k.orders.items) < 4294967296 = subst (λ (r : Room Resting). length r.list < 4294967296) (sym c.self.view_is) c.requires.few in
    let later = subst (λ (r : Room Resting). All (λ (o : Resting). o.reference < order.reference) r.list) (sym c.self.view_is) c.requires.later in
    let fresh = subst (λ (r : Room Resting). order_of order.agent order.token r.list ≡ None) (sym c.self.view_is) c.requires.fresh in
    let list : open_orders c.join-in-Sell.new.orders.items ≡ open_orders k.orders.items ++ order ∷ [] = ap open_orders c.join-in-Sell.ensures.orders ∙ open_orders-push k.orders.items order c.requires.shares in
    record {
      orders_room = search rules;
      nexts_room = search rules;
      buys_room = search rules;
      sells_room = search rules;
      hidden_buys_room = search rules;
      hidden_sells_room = search rules;
      references_room = search rules;
      befores_room = search rules;
      lasts_begun = search rules;
      lasts_long = search rules;
      sell_count = ap (λ n. n + 1) (c.join-in-Sell.ensures.count ∙ c.self.invariant.sell_count) ∙ sym (depth-push_on Sell (open_orders k.orders.items) order c.in-Sell.is) ∙ ap (depth_of Sell) (sym list);
      buy_count = c.self.invariant.buy_count ∙ sym (depth-push_off Buy (open_orders k.orders.items) order (λ q. others_sell order.side c.in-Sell.is (sym q))) ∙ ap (depth_of Buy) (sym list);
      references = subst (λ (w : List Resting). IsByReference w c.enter_reference.new.entries.items) (sym c.join-in-Sell.ensures.orders) (c.enter_reference.ensures.indexed k.orders.items (search rules) c.self.invariant.references later);
      chained = subst (λ (w : List Resting). IsChained w c.enter_token.new.chains.lasts.items c.enter_token.new.chains.befores.items) (sym c.join-in-Sell.ensures.orders) (c.enter_token.ensures.chained k.orders.items c.self.invariant.chained fresh);
      sells = subst (λ (s : Side). IsIndexed (shown_of s) c.join-in-Sell.new.orders.items c.join-in-Sell.new.nexts.items c.join-in-Sell.new.half.shown.items) c.in-Sell.is c.join-in-Sell.ensures.shown;
      hidden_sells = subst (λ (s : Side). IsIndexed (hidden_of s) c.join-in-Sell.new.orders.items c.join-in-Sell.new.nexts.items c.join-in-Sell.new.half.hidden.items) c.in-Sell.is c.join-in-Sell.ensures.hidden;
      buys = c.join-in-Sell.ensures.others (shown_of Buy) k.buys.shown.items (others_sell order.side c.in-Sell.is) c.self.invariant.buys;
      hidden_buys = c.join-in-Sell.ensures.others (hidden_of Buy) k.buys.hidden.items (others_sell order.side c.in-Sell.is) c.self.invariant.hidden_buys;
      orderly = subst IsOrderly (sym list) (orderly-push (open_orders k.orders.items) order c.self.invariant.orderly c.requires.shares c.requires.intended few later);
      small = subst IsSmall (sym list) (each-push (λ (o : Resting). o.left ≤ 4294967295) (open_orders k.orders.items) order c.self.invariant.small c.fits.ensures);
    }

pub returns-in-Sell : goal.returns-in-Sell
returns-in-Sell c =
    rw (c.join-in-Sell.ensures.orders, open_orders-push c.self.inside.orders.items c.args.order c.requires.shares, ← c.self.view_is) refl

pub join-requires-clause-open : goal.join-requires-clause-open
join-requires-clause-open c = c.requires.shares

pub join-requires-clause-orders_room : goal.join-requires-clause-orders_room
join-requires-clause-orders_room c = omega (arith, c.requires.room, c.self.invariant.orders_room, ap (λ (r : Room Resting). r.spare) c.self.view_is)

pub join-requires-clause-nexts_room : goal.join-requires-clause-nexts_room
join-requires-clause-nexts_room c = omega (arith, c.requires.room, c.self.invariant.nexts_room, ap (λ (r : Room Resting). r.spare) c.self.view_is)

pub join-requires-clause-shown_room : goal.join-requires-clause-shown_room
join-requires-clause-shown_room c = omega (arith, c.requires.room, c.self.invariant.buys_room, ap (λ (r : Room Resting). r.spare) c.self.view_is)

pub join-requires-clause-hidden_room : goal.join-requires-clause-hidden_room
join-requires-clause-hidden_room c = omega (arith, c.requires.room, c.self.invariant.hidden_buys_room, ap (λ (r : Room Resting). r.spare) c.self.view_is)

pub overflow_add-self : goal.overflow_add-self
overflow_add-self c =
    let list = open_orders c.self.inside.orders.items in
    omega (arith, c.join.ensures.count, c.self.invariant.buy_count, count_by-le-length (is_on Buy) list, c.requires.few, ap (λ (r : Room Resting). length r.list) c.self.view_is)

pub overflow_sub-self : goal.overflow_sub-self
overflow_sub-self c = omega (arith, c.requires.room, ap (λ (r : Room Resting). r.spare) c.self.view_is)

pub join-requires-in-Sell-clause-open : goal.join-requires-in-Sell-clause-open
join-requires-in-Sell-clause-open c = c.requires.shares

pub join-requires-in-Sell-clause-orders_room : goal.join-requires-in-Sell-clause-orders_room
join-requires-in-Sell-clause-orders_room c = omega (arith, c.requires.room, c.self.invariant.orders_room, ap (λ (r : Room Resting). r.spare) c.self.view_is)

pub join-requires-in-Sell-clause-nexts_room : goal.join-requires-in-Sell-clause-nexts_room
join-requires-in-Sell-clause-nexts_room c = omega (arith, c.requires.room, c.self.invariant.nexts_room, ap (λ (r : Room Resting). r.spare) c.self.view_is)

pub join-requires-in-Sell-clause-shown_room : goal.join-requires-in-Sell-clause-shown_room
join-requires-in-Sell-clause-shown_room c = omega (arith, c.requires.room, c.self.invariant.sells_room, ap (λ (r : Room Resting). r.spare) c.self.view_is)

pub join-requires-in-Sell-clause-hidden_room : goal.join-requires-in-Sell-clause-hidden_room
join-requires-in-Sell-clause-hidden_room c = omega (arith, c.requires.room, c.self.invariant.hidden_sells_room, ap (λ (r : Room Resting). r.spare) c.self.view_is)

pub overflow_add-self-in-Sell : goal.overflow_add-self-in-Sell
overflow_add-self-in-Sell c =
    let list = open_orders c.self.inside.orders.items in
    omega (arith, c.join-in-Sell.ensures.count, c.self.invariant.sell_count, count_by-le-length (is_on Sell) list, c.requires.few, ap (λ (r : Room Resting). length r.list) c.self.view_is)

pub overflow_sub-self-in-Sell : goal.overflow_sub-self-in-Sell
overflow_sub-self-in-Sell c = omega (arith, c.requires.room, ap (λ (r : Room Resting). r.spare) c.self.view_is)

pub enter_reference-requires : goal.enter_reference-requires
enter_reference-requires c = record { room = omega (arith, c.requires.room, c.self.invariant.references_room, ap (λ (r : Room Resting). r.spare) c.self.view_is) }

pub enter_token-requires : goal.enter_token-requires
enter_token-requires c = record {
  room = omega (arith, c.requires.room, c.self.invariant.befores_room, ap (λ (r : Room Resting). r.spare) c.self.view_is);
  begun = c.self.invariant.lasts_begun (omega (arith, c.requires.room, ap (λ (r : Room Resting). r.spare) c.self.view_is));
}
