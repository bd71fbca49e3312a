use Rattle.std.proofs.Common.{◌≡◌, ◌∙◌, IfSome, ap, option_map, sym, subst, refl, arith, rules}
use Rattle.market_types.specs.declared.order.Side.TheVariants.{Buy, Sell}
use Rattle.market_types.specs.Room.{Room}
use Rattle.price_time_book.specs.declared.resting.Resting.{Resting}
use Rattle.price_time_book.specs.Indexed.{IsIndexed, open_orders}
use Rattle.price_time_book.specs.Matched.{after_fill, fill_of}
use Rattle.price_time_book.specs.Next.{next_of}
use Rattle.price_time_book.specs.Queues.{hidden_of, shown_of}
use Rattle.price_time_book.proofs.Befores.{chained_lessened}
use Rattle.price_time_book.proofs.Indexes.{references_lessened}
use Rattle.price_time_book.proofs.Sides.{if_none}
use Rattle.price_time_book.proofs.Takes.{others_buy, others_sell}
use Rattle.price_time_book.proofs.book.Book.match_next.Goals as goal

pub invariant_of-self : goal.invariant_of-self
invariant_of-self c =
    let k = c.self.inside in
    record {
      orders_room = search rules;
      nexts_room = c.self.invariant.nexts_room;
      buys_room = search rules;
      sells_room = search rules;
      hidden_buys_room = search rules;
      hidden_sells_room = search rules;
      references_room = c.self.invariant.references_room;
      befores_room = c.self.invariant.befores_room;
      lasts_begun = c.self.invariant.lasts_begun;
      lasts_long = c.self.invariant.lasts_long;
      sell_count = c.take_first.ensures.count;
      buy_count = c.self.invariant.buy_count ∙ sym (c.take_first.ensures.other_count Buy (others_sell Sell refl));
      references = references_lessened k.orders.items c.take_first.new.orders.items k.references.items c.take_first.ensures.lessened c.self.invariant.references;
      chained = chained_lessened k.orders.items c.take_first.new.orders.items k.chains.lasts.items k.chains.befores.items c.take_first.ensures.lessened c.self.invariant.chained;
      sells = subst (λ n. IsIndexed (shown_of Sell) c.take_first.new.orders.items n c.take_first.new.half.shown.items) c.as_slice-nexts.ensures.value c.take_first.ensures.shown;
      hidden_sells = subst (λ n. IsIndexed (hidden_of Sell) c.take_first.new.orders.items n c.take_first.new.half.hidden.items) c.as_slice-nexts.ensures.value c.take_first.ensures.hidden;
      buys = subst (λ n. IsIndexed (shown_of Buy) c.take_first.new.orders.items n k.buys.shown.items) c.as_slice-nexts.ensures.value (c.take_first.ensures.others (shown_of Buy) k.buys.shown.items (others_sell Sell refl) (subst (λ n. IsIndexed (shown_of Buy) k.orders.items n k.buys.shown.items) (sym c.as_slice-nexts.ensures.value) c.self.invariant.buys));
      hidden_buys = subst (λ n. IsIndexed (hidden_of Buy) c.take_first.new.orders.items n k.buys.hidden.items) c.as_slice-nexts.ensures.value (c.take_first.ensures.others (hidden_of Buy) k.buys.hidden.items (others_sell Sell refl) (subst (λ n. IsIndexed (hidden_of Buy) k.orders.items n k.buys.hidden.items) (sym c.as_slice-nexts.ensures.value) c.self.invariant.hidden_buys));
      orderly = c.take_first.ensures.orderly;
      small = c.take_first.ensures.small c.self.invariant.small;
    }

pub invariant_of-self-in-Sell : goal.invariant_of-self-in-Sell
invariant_of-self-in-Sell c =
    let k = c.self.inside in
    record {
      orders_room = search rules;
      nexts_room = c.self.invariant.nexts_room;
      buys_room = search rules;
      sells_room = search rules;
      hidden_buys_room = search rules;
      hidden_sells_room = search rules;
      references_room = c.self.invariant.references_room;
      befores_room = c.self.invariant.befores_room;
      lasts_begun = c.self.invariant.lasts_begun;
      lasts_long = c.self.invariant.lasts_long;
      buy_count = c.take_first-in-Sell.ensures.count;
      sell_count = c.self.invariant.sell_count ∙ sym (c.take_first-in-Sell.ensures.other_count Sell (others_buy Buy refl));
      references = references_lessened k.orders.items c.take_first-in-Sell.new.orders.items k.references.items c.take_first-in-Sell.ensures.lessened c.self.invariant.references;
      chained = chained_lessened k.orders.items c.take_first-in-Sell.new.orders.items k.chains.lasts.items k.chains.befores.items c.take_first-in-Sell.ensures.lessened c.self.invariant.chained;
      buys = subst (λ n. IsIndexed (shown_of Buy) c.take_first-in-Sell.new.orders.items n c.take_first-in-Sell.new.half.shown.items) c.as_slice-nexts.ensures.value c.take_first-in-Sell.ensures.shown;
      hidden_buys = subst (λ n. IsIndexed (hidden_of Buy) c.take_first-in-Sell.new.orders.items n c.take_first-in-Sell.new.half.hidden.items) c.as_slice-nexts.ensures.value c.take_first-in-Sell.ensures.hidden;
      sells = subst (λ n. IsIndexed (shown_of Sell) c.take_first-in-Sell.new.orders.items n k.sells.shown.items) c.as_slice-nexts.ensures.value (c.take_first-in-Sell.ensures.others (shown_of Sell) k.sells.shown.items (others_buy Buy refl) (subst (λ n. IsIndexed (shown_of Sell) k.orders.items n k.sells.shown.items) (sym c.as_slice-nexts.ensures.value) c.self.invariant.sells));
      hidden_sells = subst (λ n. IsIndexed (hidden_of Sell) c.take_first-in-Sell.new.orders.items n k.sells.hidden.items) c.as_slice-nexts.ensures.value (c.take_first-in-Sell.ensures.others (hidden_of Sell) k.sells.hidden.items (others_buy Buy refl) (subst (λ n. IsIndexed (hidden_of Sell) k.orders.items n k.sells.hidden.items) (sym c.as_slice-nexts.ensures.value) c.self.invariant.hidden_sells));
      orderly = c.take_first-in-Sell.ensures.orderly;
      small = c.take_first-in-Sell.ensures.small c.self.invariant.small;
    }

pub take_first-requires-clause-shown : goal.take_first-requires-clause-shown
take_first-requires-clause-shown c =
    let k = c.self.inside in
    subst (λ n. IsIndexed (shown_of Sell) k.orders.items n k.sells.shown.items) (sym c.as_slice-nexts.ensures.value) c.self.invariant.sells

pub take_first-requires-clause-hidden : goal.take_first-requires-clause-hidden
take_first-requires-clause-hidden c =
    let k = c.self.inside in
    subst (λ n. IsIndexed (hidden_of Sell) k.orders.items n k.sells.hidden.items) (sym c.as_slice-nexts.ensures.value) c.self.invariant.hidden_sells

pub take_first-requires-clause-count : goal.take_first-requires-clause-count
take_first-requires-clause-count c = c.self.invariant.sell_count

pub take_first-requires-clause-orderly : goal.take_first-requires-clause-orderly
take_first-requires-clause-orderly c = c.self.invariant.orderly

pub returns-in-Buy-clause-next : goal.returns-in-Buy-clause-next
returns-in-Buy-clause-next c = c.take_first.ensures.next ∙ ap (λ (r : Room Resting). option_map (fill_of c.args.shares) (next_of r.list c.args.side c.args.limit)) c.self.view_is

pub returns-in-Buy-clause-gives : goal.returns-in-Buy-clause-gives
returns-in-Buy-clause-gives c = c.take_first.ensures.gives

pub returns-in-Buy-clause-filled : goal.returns-in-Buy-clause-filled
returns-in-Buy-clause-filled c =
    subst (λ (r : Room Resting). IfSome c.take_first.result (λ f. open_orders c.take_first.new.orders.items ≡ after_fill f r.list)) c.self.view_is c.take_first.ensures.filled

pub returns-in-Buy-clause-unmatched : goal.returns-in-Buy-clause-unmatched
returns-in-Buy-clause-unmatched c =
    let k = c.self.inside in
    let call = c.take_first in
    if_none (call.new.orders.items ≡ k.orders.items) (open_orders call.new.orders.items ≡ c.args.self.now.list) call.result (λ e. ap open_orders e ∙ ap (λ (r : Room Resting). r.list) c.self.view_is) call.ensures.unmatched

pub returns-in-Buy-clause-room : goal.returns-in-Buy-clause-room
returns-in-Buy-clause-room c = omega (arith, ap (λ (r : Room Resting). r.spare) c.self.view_is)

pub take_first-requires-in-Sell-clause-shown : goal.take_first-requires-in-Sell-clause-shown
take_first-requires-in-Sell-clause-shown c =
    let k = c.self.inside in
    subst (λ n. IsIndexed (shown_of Buy) k.orders.items n k.buys.shown.items) (sym c.as_slice-nexts.ensures.value) c.self.invariant.buys

pub take_first-requires-in-Sell-clause-hidden : goal.take_first-requires-in-Sell-clause-hidden
take_first-requires-in-Sell-clause-hidden c =
    let k = c.self.inside in
    subst (λ n. IsIndexed (hidden_of Buy) k.orders.items n k.buys.hidden.items) (sym c.as_slice-nexts.ensures.value) c.self.invariant.hidden_buys

pub take_first-requires-in-Sell-clause-count : goal.take_first-requires-in-Sell-clause-count
take_first-requires-in-Sell-clause-count c = c.self.invariant.buy_count

pub take_first-requires-in-Sell-clause-orderly : goal.take_first-requires-in-Sell-clause-orderly
take_first-requires-in-Sell-clause-orderly c = c.self.invariant.orderly

pub returns-in-Sell-clause-next : goal.returns-in-Sell-clause-next
returns-in-Sell-clause-next c = c.take_first-in-Sell.ensures.next ∙ ap (λ (r : Room Resting). option_map (fill_of c.args.shares) (next_of r.list c.args.side c.args.limit)) c.self.view_is

pub returns-in-Sell-clause-gives : goal.returns-in-Sell-clause-gives
returns-in-Sell-clause-gives c = c.take_first-in-Sell.ensures.gives

pub returns-in-Sell-clause-filled : goal.returns-in-Sell-clause-filled
returns-in-Sell-clause-filled c =
    subst (λ (r : Room Resting). IfSome c.take_first-in-Sell.result (λ f. open_orders c.take_first-in-Sell.new.orders.items ≡ after_fill f r.list)) c.self.view_is c.take_first-in-Sell.ensures.filled

pub returns-in-Sell-clause-unmatched : goal.returns-in-Sell-clause-unmatched
returns-in-Sell-clause-unmatched c =
    let k = c.self.inside in
    let call = c.take_first-in-Sell in
    if_none (call.new.orders.items ≡ k.orders.items) (open_orders call.new.orders.items ≡ c.args.self.now.list) call.result (λ e. ap open_orders e ∙ ap (λ (r : Room Resting). r.list) c.self.view_is) call.ensures.unmatched

pub returns-in-Sell-clause-room : goal.returns-in-Sell-clause-room
returns-in-Sell-clause-room c = omega (arith, ap (λ (r : Room Resting). r.spare) c.self.view_is)
