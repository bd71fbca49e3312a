-- Whether two values of a trace are the same in all their parts.
use Rattle.std.specs.Prelude.{ℕ, ◌==◌, ◌&&◌, nat_eq, not, Bool, true, false, List, if◌then◌else◌}
use Rattle.std.specs.Ordering.{int_eq}
use Rattle.std.specs.Cmp.Lexicographic.{pointwise}
use Rattle.market_types.specs.Told.{EventTold}
use Rattle.market_types.specs.declared.order.Side.{Side}
use Rattle.market_types.specs.declared.order.Side.TheVariants as side
use Rattle.market_types.specs.declared.order.Enter.{Enter}
use Rattle.market_types.specs.declared.order.Cancel.{Cancel}
use Rattle.market_types.specs.declared.order.Inbound.{Inbound}
use Rattle.market_types.specs.declared.order.Inbound.TheVariants as inbound
use Rattle.market_types.specs.declared.reply.Reply.{Reply}
use Rattle.market_types.specs.declared.reply.Reply.TheVariants as reply
use Rattle.market_types.specs.declared.message.Quote.{Quote}
use Rattle.market_types.specs.declared.message.Body.{Body}
use Rattle.market_types.specs.declared.message.Body.TheVariants as body
use Rattle.market_types.specs.declared.feed.What.{What}
use Rattle.market_types.specs.declared.feed.What.TheVariants as what
use Rattle.market_types.specs.declared.feed.Feed.{Feed}

abbrev pub same_bytes : List ℕ → List ℕ → Bool
same_bytes = pointwise nat_eq

abbrev pub same_side : Side → Side → Bool
same_side side.Buy side.Buy = true
same_side side.Sell side.Sell = true
same_side a b = false

abbrev pub same_enter : Enter → Enter → Bool
same_enter a b =
    same_bytes a.token.0 b.token.0 && (same_side a.side b.side && ((a.shares == b.shares) && (same_bytes a.stock.0 b.stock.0
    && ((a.price == b.price) && ((a.tif == b.tif) && (same_bytes a.firm b.firm && ((a.display == b.display)
    && ((a.capacity == b.capacity) && ((a.sweep == b.sweep) && ((a.minimum == b.minimum) && ((a.cross == b.cross)
    && (a.customer == b.customer))))))))))))

abbrev pub same_cancel : Cancel → Cancel → Bool
same_cancel a b = same_bytes a.token.0 b.token.0 && (a.shares == b.shares)

abbrev pub same_inbound : Inbound → Inbound → Bool
same_inbound (inbound.Enter a) (inbound.Enter b) = same_enter a b
same_inbound (inbound.Cancel a) (inbound.Cancel b) = same_cancel a b
same_inbound a b = false

abbrev pub same_quote : Quote → Quote → Bool
same_quote a b =
    (a.stock == b.stock) && ((a.state == b.state) && ((a.bid == b.bid) && ((a.bid_shares == b.bid_shares)
    && ((a.ask == b.ask) && ((a.ask_shares == b.ask_shares) && (a.last == b.last))))))

abbrev pub same_reply : Reply → Reply → Bool
same_reply (reply.System time code) (reply.System time' code') = (time == time') && (code == code')
same_reply
    (reply.Accepted time token side shares stock price tif firm display reference capacity sweep minimum cross state bbo)
    (reply.Accepted time' token' side' shares' stock' price' tif' firm' display' reference' capacity' sweep' minimum' cross' state' bbo') =
    (time == time') && (same_bytes token.0 token'.0 && (same_side side side' && ((shares == shares') && (same_bytes stock.0 stock'.0
    && ((price == price') && ((tif == tif') && (same_bytes firm firm' && ((display == display') && ((reference == reference')
    && ((capacity == capacity') && ((sweep == sweep') && ((minimum == minimum') && ((cross == cross') && ((state == state')
    && (bbo == bbo')))))))))))))))
same_reply (reply.Canceled time token decrement reason) (reply.Canceled time' token' decrement' reason') =
    (time == time') && (same_bytes token.0 token'.0 && ((decrement == decrement') && (reason == reason')))
same_reply (reply.Executed time token shares price flag number) (reply.Executed time' token' shares' price' flag' number') =
    (time == time') && (same_bytes token.0 token'.0 && ((shares == shares') && ((price == price') && ((flag == flag') && (number == number')))))
same_reply (reply.Rejected time token reason) (reply.Rejected time' token' reason') =
    (time == time') && (same_bytes token.0 token'.0 && (reason == reason'))
same_reply a b = false

abbrev pub same_body : Body → Body → Bool
same_body body.Wake body.Wake = true
same_body (body.Order a) (body.Order b) = same_inbound a b
same_body (body.Answer a) (body.Answer b) = same_reply a b
same_body (body.Ask a) (body.Ask b) = a == b
same_body (body.Quote a) (body.Quote b) = same_quote a b
same_body a b = false

abbrev pub same_what : What → What → Bool
same_what (what.System code) (what.System code') = code == code'
same_what
    (what.Directory stock category financial lot lots_only class sub_type authenticity short_sale ipo tier etp leverage inverse)
    (what.Directory stock' category' financial' lot' lots_only' class' sub_type' authenticity' short_sale' ipo' tier' etp' leverage' inverse') =
    same_bytes stock.0 stock'.0 && ((category == category') && ((financial == financial') && ((lot == lot')
    && ((lots_only == lots_only') && ((class == class') && (same_bytes sub_type sub_type' && ((authenticity == authenticity')
    && ((short_sale == short_sale') && ((ipo == ipo') && ((tier == tier') && ((etp == etp') && ((leverage == leverage')
    && (inverse == inverse')))))))))))))
same_what (what.Trading stock state reserved reason) (what.Trading stock' state' reserved' reason') =
    same_bytes stock.0 stock'.0 && ((state == state') && ((reserved == reserved') && same_bytes reason reason'))
same_what (what.Add reference side shares stock price) (what.Add reference' side' shares' stock' price') =
    (reference == reference') && (same_side side side' && ((shares == shares') && (same_bytes stock.0 stock'.0 && (price == price'))))
same_what (what.Executed reference shares number) (what.Executed reference' shares' number') =
    (reference == reference') && ((shares == shares') && (number == number'))
same_what (what.Cancel reference shares) (what.Cancel reference' shares') = (reference == reference') && (shares == shares')
same_what (what.Delete reference) (what.Delete reference') = reference == reference'
same_what (what.Trade reference side shares stock price number) (what.Trade reference' side' shares' stock' price' number') =
    (reference == reference') && (same_side side side' && ((shares == shares') && (same_bytes stock.0 stock'.0
    && ((price == price') && (number == number')))))
same_what (what.Cross shares stock price number kind) (what.Cross shares' stock' price' number' kind') =
    (shares == shares') && (same_bytes stock.0 stock'.0 && ((price == price') && ((number == number') && (kind == kind'))))
same_what a b = false

abbrev pub same_feed : Feed → Feed → Bool
same_feed a b = (a.locate == b.locate) && ((a.tracking == b.tracking) && ((a.time == b.time) && same_what a.what b.what))

abbrev pub same_feeds : List Feed → List Feed → Bool
same_feeds = pointwise same_feed

abbrev pub same_truth : Bool → Bool → Bool
same_truth a b = if a then b else not b

-- two records are the same in all that they tell, with the feed before them and their own
abbrev pub same_event : EventTold → EventTold → Bool
same_event a b =
    (a.number == b.number) && ((a.time == b.time) && ((a.seq == b.seq) && ((a.from == b.from) && ((a.to == b.to)
    && (same_truth a.put_back b.put_back && ((a.until == b.until) && (int_eq a.fee b.fee && (same_body a.body b.body
    && (same_feeds a.before b.before && same_feeds a.after b.after)))))))))
