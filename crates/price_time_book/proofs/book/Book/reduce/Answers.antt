use Rattle.std.proofs.Common.{◌-◌, List, sym, ap, ◌∙◌, subst, refl, arith, rules}
use Rattle.market_types.specs.Room.{Room}
use Rattle.market_types.specs.declared.order.Side.TheVariants.{Buy, Sell}
use Rattle.price_time_book.specs.declared.resting.Resting.{Resting}
use Rattle.price_time_book.specs.Indexed.{IsIndexed, open_orders}
use Rattle.price_time_book.specs.Orders.{changed, order_with, reduced}
use Rattle.price_time_book.specs.Queues.{hidden_of, shown_of}
use Rattle.price_time_book.proofs.Befores.{chained_lessened}
use Rattle.price_time_book.proofs.Indexes.{references_lessened}
use Rattle.price_time_book.proofs.Takes.{held, others_buy, others_sell}
use Rattle.price_time_book.proofs.book.Book.reduce.Goals as goal

pub overflow_sub-intended-2 : goal.overflow_sub-intended-2
overflow_sub-intended-2 c =
    let k = c.self.inside in
    let o = c.in_ok-at.resting in
    let seen = held c.as_slice.result.now k.orders.items c.args.self.now.list c.args.reference c.args.left c.in_ok-at.at o c.as_slice.ensures.value (ap (λ (r : Room Resting). r.list) c.self.view_is) c.in_ok-at.ensures.held c.in_ok-at.ensures.place c.requires c.self.invariant.orderly in
    omega (arith, seen.size)

pub lower_at-requires-clause-within : goal.lower_at-requires-clause-within
lower_at-requires-clause-within c =
    let k = c.self.inside in
    let o = c.in_ok-at.resting in
    let seen = held c.as_slice.result.now k.orders.items c.args.self.now.list c.args.reference c.args.left c.in_ok-at.at o c.as_slice.ensures.value (ap (λ (r : Room Resting). r.list) c.self.view_is) c.in_ok-at.ensures.held c.in_ok-at.ensures.place c.requires c.self.invariant.orderly in
    seen.within

pub lower_at-requires-clause-side : goal.lower_at-requires-clause-side
lower_at-requires-clause-side c =
    let k = c.self.inside in
    let o = c.in_ok-at.resting in
    let seen = held c.as_slice.result.now k.orders.items c.args.self.now.list c.args.reference c.args.left c.in_ok-at.at o c.as_slice.ensures.value (ap (λ (r : Room Resting). r.list) c.self.view_is) c.in_ok-at.ensures.held c.in_ok-at.ensures.place c.requires c.self.invariant.orderly in
    ap (λ (q : Resting). q.side) seen.same ∙ c.in-Buy.is

pub lower_at-requires-clause-lower : goal.lower_at-requires-clause-lower
lower_at-requires-clause-lower c =
    let k = c.self.inside in
    let o = c.in_ok-at.resting in
    let seen = held c.as_slice.result.now k.orders.items c.args.self.now.list c.args.reference c.args.left c.in_ok-at.at o c.as_slice.ensures.value (ap (λ (r : Room Resting). r.list) c.self.view_is) c.in_ok-at.ensures.held c.in_ok-at.ensures.place c.requires c.self.invariant.orderly in
    omega (arith, seen.less, ap (λ (q : Resting). q.left) seen.same)

pub lower_at-requires-clause-size : goal.lower_at-requires-clause-size
lower_at-requires-clause-size c =
    let k = c.self.inside in
    let o = c.in_ok-at.resting in
    let seen = held c.as_slice.result.now k.orders.items c.args.self.now.list c.args.reference c.args.left c.in_ok-at.at o c.as_slice.ensures.value (ap (λ (r : Room Resting). r.list) c.self.view_is) c.in_ok-at.ensures.held c.in_ok-at.ensures.place c.requires c.self.invariant.orderly in
    omega (arith, seen.less, seen.size)

pub invariant_of-self : goal.invariant_of-self
invariant_of-self c =
    let k = c.self.inside in
    let o = c.in_ok-at.resting in
    let seen = held c.as_slice.result.now k.orders.items c.args.self.now.list c.args.reference c.args.left c.in_ok-at.at o c.as_slice.ensures.value (ap (λ (r : Room Resting). r.list) c.self.view_is) c.in_ok-at.ensures.held c.in_ok-at.ensures.place c.requires c.self.invariant.orderly in
    record {
      orders_room = search rules;
      nexts_room = c.self.invariant.nexts_room;
      buys_room = search rules;
      sells_room = search rules;
      hidden_buys_room = search rules;
      hidden_sells_room = search rules;
      references_room = c.self.invariant.references_room;
      befores_room = c.self.invariant.befores_room;
      lasts_begun = c.self.invariant.lasts_begun;
      lasts_long = c.self.invariant.lasts_long;
      buy_count = c.lower_at.ensures.count;
      sell_count = c.self.invariant.sell_count ∙ sym (c.lower_at.ensures.other_count Sell (others_buy Buy refl));
      references = references_lessened k.orders.items c.lower_at.new.orders.items k.references.items c.lower_at.ensures.lessened c.self.invariant.references;
      chained = chained_lessened k.orders.items c.lower_at.new.orders.items k.chains.lasts.items k.chains.befores.items c.lower_at.ensures.lessened c.self.invariant.chained;
      buys = subst (λ n. IsIndexed (shown_of Buy) c.lower_at.new.orders.items n c.lower_at.new.half.shown.items) c.as_slice-nexts.ensures.value c.lower_at.ensures.shown;
      hidden_buys = subst (λ n. IsIndexed (hidden_of Buy) c.lower_at.new.orders.items n c.lower_at.new.half.hidden.items) c.as_slice-nexts.ensures.value c.lower_at.ensures.hidden;
      sells = subst (λ n. IsIndexed (shown_of Sell) c.lower_at.new.orders.items n k.sells.shown.items) c.as_slice-nexts.ensures.value (c.lower_at.ensures.others (shown_of Sell) k.sells.shown.items (others_buy Buy refl) (subst (λ n. IsIndexed (shown_of Sell) k.orders.items n k.sells.shown.items) (sym c.as_slice-nexts.ensures.value) c.self.invariant.sells));
      hidden_sells = subst (λ n. IsIndexed (hidden_of Sell) c.lower_at.new.orders.items n k.sells.hidden.items) c.as_slice-nexts.ensures.value (c.lower_at.ensures.others (hidden_of Sell) k.sells.hidden.items (others_buy Buy refl) (subst (λ n. IsIndexed (hidden_of Sell) k.orders.items n k.sells.hidden.items) (sym c.as_slice-nexts.ensures.value) c.self.invariant.hidden_sells));
      orderly = c.lower_at.ensures.orderly;
      small = c.lower_at.ensures.small c.self.invariant.small;
    }

pub lower_at-requires-in-Sell-clause-within : goal.lower_at-requires-in-Sell-clause-within
lower_at-requires-in-Sell-clause-within c =
    let k = c.self.inside in
    let o = c.in_ok-at.resting in
    let seen = held c.as_slice.result.now k.orders.items c.args.self.now.list c.args.reference c.args.left c.in_ok-at.at o c.as_slice.ensures.value (ap (λ (r : Room Resting). r.list) c.self.view_is) c.in_ok-at.ensures.held c.in_ok-at.ensures.place c.requires c.self.invariant.orderly in
    seen.within

pub lower_at-requires-in-Sell-clause-side : goal.lower_at-requires-in-Sell-clause-side
lower_at-requires-in-Sell-clause-side c =
    let k = c.self.inside in
    let o = c.in_ok-at.resting in
    let seen = held c.as_slice.result.now k.orders.items c.args.self.now.list c.args.reference c.args.left c.in_ok-at.at o c.as_slice.ensures.value (ap (λ (r : Room Resting). r.list) c.self.view_is) c.in_ok-at.ensures.held c.in_ok-at.ensures.place c.requires c.self.invariant.orderly in
    ap (λ (q : Resting). q.side) seen.same ∙ c.in-Sell.is

pub lower_at-requires-in-Sell-clause-lower : goal.lower_at-requires-in-Sell-clause-lower
lower_at-requires-in-Sell-clause-lower c =
    let k = c.self.inside in
    let o = c.in_ok-at.resting in
    let seen = held c.as_slice.result.now k.orders.items c.args.self.now.list c.args.reference c.args.left c.in_ok-at.at o c.as_slice.ensures.value (ap (λ (r : Room Resting). r.list) c.self.view_is) c.in_ok-at.ensures.held c.in_ok-at.ensures.place c.requires c.self.invariant.orderly in
    omega (arith, seen.less, ap (λ (q : Resting). q.left) seen.same)

pub lower_at-requires-in-Sell-clause-size : goal.lower_at-requires-in-Sell-clause-size
lower_at-requires-in-Sell-clause-size c =
    let k = c.self.inside in
    let o = c.in_ok-at.resting in
    let seen = held c.as_slice.result.now k.orders.items c.args.self.now.list c.args.reference c.args.left c.in_ok-at.at o c.as_slice.ensures.value (ap (λ (r : Room Resting). r.list) c.self.view_is) c.in_ok-at.ensures.held c.in_ok-at.ensures.place c.requires c.self.invariant.orderly in
    omega (arith, seen.less, seen.size)

pub invariant_of-self-in-Sell : goal.invariant_of-self-in-Sell
invariant_of-self-in-Sell c =
    let k = c.self.inside in
    let o = c.in_ok-at.resting in
    let seen = held c.as_slice.result.now k.orders.items c.args.self.now.list c.args.reference c.args.left c.in_ok-at.at o c.as_slice.ensures.value (ap (λ (r : Room Resting). r.list) c.self.view_is) c.in_ok-at.ensures.held c.in_ok-at.ensures.place c.requires c.self.invariant.orderly in
    record {
      orders_room = search rules;
      nexts_room = c.self.invariant.nexts_room;
      buys_room = search rules;
      sells_room = search rules;
      hidden_buys_room = search rules;
      hidden_sells_room = search rules;
      references_room = c.self.invariant.references_room;
      befores_room = c.self.invariant.befores_room;
      lasts_begun = c.self.invariant.lasts_begun;
      lasts_long = c.self.invariant.lasts_long;
      sell_count = c.lower_at-in-Sell.ensures.count;
      buy_count = c.self.invariant.buy_count ∙ sym (c.lower_at-in-Sell.ensures.other_count Buy (others_sell Sell refl));
      references = references_lessened k.orders.items c.lower_at-in-Sell.new.orders.items k.references.items c.lower_at-in-Sell.ensures.lessened c.self.invariant.references;
      chained = chained_lessened k.orders.items c.lower_at-in-Sell.new.orders.items k.chains.lasts.items k.chains.befores.items c.lower_at-in-Sell.ensures.lessened c.self.invariant.chained;
      sells = subst (λ n. IsIndexed (shown_of Sell) c.lower_at-in-Sell.new.orders.items n c.lower_at-in-Sell.new.half.shown.items) c.as_slice-nexts.ensures.value c.lower_at-in-Sell.ensures.shown;
      hidden_sells = subst (λ n. IsIndexed (hidden_of Sell) c.lower_at-in-Sell.new.orders.items n c.lower_at-in-Sell.new.half.hidden.items) c.as_slice-nexts.ensures.value c.lower_at-in-Sell.ensures.hidden;
      buys = subst (λ n. IsIndexed (shown_of Buy) c.lower_at-in-Sell.new.orders.items n k.buys.shown.items) c.as_slice-nexts.ensures.value (c.lower_at-in-Sell.ensures.others (shown_of Buy) k.buys.shown.items (others_sell Sell refl) (subst (λ n. IsIndexed (shown_of Buy) k.orders.items n k.buys.shown.items) (sym c.as_slice-nexts.ensures.value) c.self.invariant.buys));
      hidden_buys = subst (λ n. IsIndexed (hidden_of Buy) c.lower_at-in-Sell.new.orders.items n k.buys.hidden.items) c.as_slice-nexts.ensures.value (c.lower_at-in-Sell.ensures.others (hidden_of Buy) k.buys.hidden.items (others_sell Sell refl) (subst (λ n. IsIndexed (hidden_of Buy) k.orders.items n k.buys.hidden.items) (sym c.as_slice-nexts.ensures.value) c.self.invariant.hidden_buys));
      orderly = c.lower_at-in-Sell.ensures.orderly;
      small = c.lower_at-in-Sell.ensures.small c.self.invariant.small;
    }

pub lower_at-requires-clause-shown : goal.lower_at-requires-clause-shown
lower_at-requires-clause-shown c =
    let k = c.self.inside in
    subst (λ n. IsIndexed (shown_of Buy) k.orders.items n k.buys.shown.items) (sym c.as_slice-nexts.ensures.value) c.self.invariant.buys

pub lower_at-requires-clause-hidden : goal.lower_at-requires-clause-hidden
lower_at-requires-clause-hidden c =
    let k = c.self.inside in
    subst (λ n. IsIndexed (hidden_of Buy) k.orders.items n k.buys.hidden.items) (sym c.as_slice-nexts.ensures.value) c.self.invariant.hidden_buys

pub lower_at-requires-clause-count : goal.lower_at-requires-clause-count
lower_at-requires-clause-count c = c.self.invariant.buy_count

pub lower_at-requires-clause-orderly : goal.lower_at-requires-clause-orderly
lower_at-requires-clause-orderly c = c.self.invariant.orderly

pub returns-in-Buy-clause-was : goal.returns-in-Buy-clause-was
returns-in-Buy-clause-was c =
    c.in_ok-at.ensures.held ∙ ap (λ (w : List Resting). order_with c.args.reference (open_orders w)) c.as_slice.ensures.value ∙ ap (λ (r : Room Resting). order_with c.args.reference r.list) c.self.view_is

pub returns-in-Buy-clause-reduced : goal.returns-in-Buy-clause-reduced
returns-in-Buy-clause-reduced c =
    let k = c.self.inside in
    let o = c.in_ok-at.resting in
    let seen = held c.as_slice.result.now k.orders.items c.args.self.now.list c.args.reference c.args.left c.in_ok-at.at o c.as_slice.ensures.value (ap (λ (r : Room Resting). r.list) c.self.view_is) c.in_ok-at.ensures.held c.in_ok-at.ensures.place c.requires c.self.invariant.orderly in
    c.lower_at.ensures.list ∙ ap (λ (q : Resting). changed (record q { left = c.args.left; intended = o.intended - (o.left - c.args.left) }) (open_orders k.orders.items)) seen.same ∙ ap (λ (r : Room Resting). changed (reduced c.args.left o) r.list) c.self.view_is

pub returns-in-Buy-clause-room : goal.returns-in-Buy-clause-room
returns-in-Buy-clause-room c = omega (arith, ap (λ (r : Room Resting). r.spare) c.self.view_is)

pub returns-in-Buy-clause-absent : goal.returns-in-Buy-clause-absent
returns-in-Buy-clause-absent c = tt

pub lower_at-requires-in-Sell-clause-shown : goal.lower_at-requires-in-Sell-clause-shown
lower_at-requires-in-Sell-clause-shown c =
    let k = c.self.inside in
    subst (λ n. IsIndexed (shown_of Sell) k.orders.items n k.sells.shown.items) (sym c.as_slice-nexts.ensures.value) c.self.invariant.sells

pub lower_at-requires-in-Sell-clause-hidden : goal.lower_at-requires-in-Sell-clause-hidden
lower_at-requires-in-Sell-clause-hidden c =
    let k = c.self.inside in
    subst (λ n. IsIndexed (hidden_of Sell) k.orders.items n k.sells.hidden.items) (sym c.as_slice-nexts.ensures.value) c.self.invariant.hidden_sells

pub lower_at-requires-in-Sell-clause-count : goal.lower_at-requires-in-Sell-clause-count
lower_at-requires-in-Sell-clause-count c = c.self.invariant.sell_count

pub lower_at-requires-in-Sell-clause-orderly : goal.lower_at-requires-in-Sell-clause-orderly
lower_at-requires-in-Sell-clause-orderly c = c.self.invariant.orderly

pub returns-in-Sell-clause-was : goal.returns-in-Sell-clause-was
returns-in-Sell-clause-was c =
    c.in_ok-at.ensures.held ∙ ap (λ (w : List Resting). order_with c.args.reference (open_orders w)) c.as_slice.ensures.value ∙ ap (λ (r : Room Resting). order_with c.args.reference r.list) c.self.view_is

pub returns-in-Sell-clause-reduced : goal.returns-in-Sell-clause-reduced
returns-in-Sell-clause-reduced c =
    let k = c.self.inside in
    let o = c.in_ok-at.resting in
    let seen = held c.as_slice.result.now k.orders.items c.args.self.now.list c.args.reference c.args.left c.in_ok-at.at o c.as_slice.ensures.value (ap (λ (r : Room Resting). r.list) c.self.view_is) c.in_ok-at.ensures.held c.in_ok-at.ensures.place c.requires c.self.invariant.orderly in
    c.lower_at-in-Sell.ensures.list ∙ ap (λ (q : Resting). changed (record q { left = c.args.left; intended = o.intended - (o.left - c.args.left) }) (open_orders k.orders.items)) seen.same ∙ ap (λ (r : Room Resting). changed (reduced c.args.left o) r.list) c.self.view_is

pub returns-in-Sell-clause-room : goal.returns-in-Sell-clause-room
returns-in-Sell-clause-room c = omega (arith, ap (λ (r : Room Resting). r.spare) c.self.view_is)

pub returns-in-Sell-clause-absent : goal.returns-in-Sell-clause-absent
returns-in-Sell-clause-absent c = tt
