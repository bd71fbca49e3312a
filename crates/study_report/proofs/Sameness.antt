-- Each record is the same as itself.
use Rattle.std.proofs.Common.{◌≡◌, ℕ, ℤ, Bool, true, false, ◌&&◌, ◌==◌, List, [], ◌∷◌, refl}
use Rattle.std.specs.Ordering.{int_eq}
use Rattle.std.proofs.lemmas.Bool.{eq-eqb}
use Rattle.std.proofs.lemmas.Bool.Decides.{Decides-int_eq}
use Rattle.market_types.specs.declared.order.Side.{Side}
use Rattle.market_types.specs.declared.order.Side.TheVariants as side
use Rattle.market_types.specs.declared.order.Enter.{Enter}
use Rattle.market_types.specs.declared.order.Inbound.{Inbound}
use Rattle.market_types.specs.declared.order.Inbound.TheVariants as inbound
use Rattle.market_types.specs.declared.reply.Reply.{Reply}
use Rattle.market_types.specs.declared.reply.Reply.TheVariants as reply
use Rattle.market_types.specs.declared.message.Quote.{Quote}
use Rattle.market_types.specs.declared.message.Body.{Body}
use Rattle.market_types.specs.declared.message.Body.TheVariants as body
use Rattle.market_types.specs.declared.feed.What.{What}
use Rattle.market_types.specs.declared.feed.What.TheVariants as what
use Rattle.market_types.specs.declared.feed.Feed.{Feed}
use Rattle.market_types.specs.Told.{EventTold}
use Rattle.study_report.specs.Same.{same_bytes, same_side, same_enter, same_inbound, same_quote, same_reply, same_body, same_what, same_feed, same_feeds, same_truth, same_event}

both : (a b : Bool) → a ≡ true → b ≡ true → (a && b) ≡ true
both true b x y = y
both false b x y = x

at : (n : ℕ) → (n == n) ≡ true
at n = eq-eqb n n refl

bytes-same : (xs : List ℕ) → same_bytes xs xs ≡ true
bytes-same [] = refl
bytes-same (x ∷ xs) = both _ _ (at x) (bytes-same xs)

side-same : (s : Side) → same_side s s ≡ true
side-same side.Buy = refl
side-same side.Sell = refl

truth-same : (b : Bool) → same_truth b b ≡ true
truth-same true = refl
truth-same false = refl

enter-same : (e : Enter) → same_enter e e ≡ true
enter-same e =
    both _ _ (bytes-same e.token.0) (both _ _ (side-same e.side) (both _ _ (at e.shares) (both _ _ (bytes-same e.stock.0)
    (both _ _ (at e.price) (both _ _ (at e.tif) (both _ _ (bytes-same e.firm) (both _ _ (at e.display) (both _ _ (at e.capacity)
    (both _ _ (at e.sweep) (both _ _ (at e.minimum) (both _ _ (at e.cross) (at e.customer))))))))))))

inbound-same : (i : Inbound) → same_inbound i i ≡ true
inbound-same (inbound.Enter e) = enter-same e
inbound-same (inbound.Cancel c) = both _ _ (bytes-same c.token.0) (at c.shares)

quote-same : (q : Quote) → same_quote q q ≡ true
quote-same q =
    both _ _ (at q.stock) (both _ _ (at q.state) (both _ _ (at q.bid) (both _ _ (at q.bid_shares) (both _ _ (at q.ask)
    (both _ _ (at q.ask_shares) (at q.last))))))

reply-same : (r : Reply) → same_reply r r ≡ true
reply-same (reply.System time code) = both _ _ (at time) (at code)
reply-same (reply.Accepted time token side shares stock price tif firm display reference capacity sweep minimum cross state bbo) =
    both _ _ (at time) (both _ _ (bytes-same token.0) (both _ _ (side-same side) (both _ _ (at shares) (both _ _ (bytes-same stock.0)
    (both _ _ (at price) (both _ _ (at tif) (both _ _ (bytes-same firm) (both _ _ (at display) (both _ _ (at reference)
    (both _ _ (at capacity) (both _ _ (at sweep) (both _ _ (at minimum) (both _ _ (at cross) (both _ _ (at state) (at bbo)))))))))))))))
reply-same (reply.Canceled time token decrement reason) = both _ _ (at time) (both _ _ (bytes-same token.0) (both _ _ (at decrement) (at reason)))
reply-same (reply.Executed time token shares price flag number) =
    both _ _ (at time) (both _ _ (bytes-same token.0) (both _ _ (at shares) (both _ _ (at price) (both _ _ (at flag) (at number)))))
reply-same (reply.Rejected time token reason) = both _ _ (at time) (both _ _ (bytes-same token.0) (at reason))

body-same : (b : Body) → same_body b b ≡ true
body-same body.Wake = refl
body-same (body.Order i) = inbound-same i
body-same (body.Answer r) = reply-same r
body-same (body.Ask n) = at n
body-same (body.Quote q) = quote-same q

what-same : (w : What) → same_what w w ≡ true
what-same (what.System code) = at code
what-same (what.Directory stock category financial lot lots_only class sub_type authenticity short_sale ipo tier etp leverage inverse) =
    both _ _ (bytes-same stock.0) (both _ _ (at category) (both _ _ (at financial) (both _ _ (at lot) (both _ _ (at lots_only)
    (both _ _ (at class) (both _ _ (bytes-same sub_type) (both _ _ (at authenticity) (both _ _ (at short_sale) (both _ _ (at ipo)
    (both _ _ (at tier) (both _ _ (at etp) (both _ _ (at leverage) (at inverse)))))))))))))
what-same (what.Trading stock state reserved reason) = both _ _ (bytes-same stock.0) (both _ _ (at state) (both _ _ (at reserved) (bytes-same reason)))
what-same (what.Add reference side shares stock price) =
    both _ _ (at reference) (both _ _ (side-same side) (both _ _ (at shares) (both _ _ (bytes-same stock.0) (at price))))
what-same (what.Executed reference shares number) = both _ _ (at reference) (both _ _ (at shares) (at number))
what-same (what.Cancel reference shares) = both _ _ (at reference) (at shares)
what-same (what.Delete reference) = at reference
what-same (what.Trade reference side shares stock price number) =
    both _ _ (at reference) (both _ _ (side-same side) (both _ _ (at shares) (both _ _ (bytes-same stock.0) (both _ _ (at price) (at number)))))
what-same (what.Cross shares stock price number kind) =
    both _ _ (at shares) (both _ _ (bytes-same stock.0) (both _ _ (at price) (both _ _ (at number) (at kind))))

feed-same : (f : Feed) → same_feed f f ≡ true
feed-same f = both _ _ (at f.locate) (both _ _ (at f.tracking) (both _ _ (at f.time) (what-same f.what)))

feeds-same : (fs : List Feed) → same_feeds fs fs ≡ true
feeds-same [] = refl
feeds-same (f ∷ fs) = both _ _ (feed-same f) (feeds-same fs)

fee-same : (z : ℤ) → int_eq z z ≡ true
fee-same z = (Decides-int_eq z z).1 refl

-- a record is the same as itself
pub event-same : (r : EventTold) → same_event r r ≡ true
event-same r =
    both _ _ (at r.number) (both _ _ (at r.time) (both _ _ (at r.seq) (both _ _ (at r.from) (both _ _ (at r.to)
    (both _ _ (truth-same r.put_back) (both _ _ (at r.until) (both _ _ (fee-same r.fee) (both _ _ (body-same r.body)
    (both _ _ (feeds-same r.before) (feeds-same r.after))))))))))
