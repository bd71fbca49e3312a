-- What a trader sends for one message.
use Rattle.std.proofs.Common.{◌≡◌, ℕ, ◌+◌, ◌≤◌, ◌<◌, List, [], ◌∷◌, length, map, length-append, refl, inl, inr, arith, subst, Option, Some, None, ℤ, pos, negsuc, All}
use Rattle.std.specs.Prelude.{nat_lt, ◌==◌}
use Rattle.std.specs.Int.{is_in_range}
use Rattle.std.proofs.lemmas.Bool.{cases_Bool}
use Rattle.std.proofs.lemmas.Bool.Decides.{nat_tests}
use Rattle.std.proofs.lemmas.List.Elements.{All-append, All-cons, All-head, All-nil, All-tail}
use Rattle.std.proofs.lemmas.Option.{same_Some}
use Rattle.market_types.specs.Limits.{highest_price}
use Rattle.market_types.specs.declared.message.Body.{Body}
use Rattle.market_types.specs.declared.message.Body.TheVariants.{Wake, Order, Answer, Ask, Quote as QuoteBody}
use Rattle.market_types.specs.declared.message.Quote.{Quote}
use Rattle.market_types.specs.declared.order.Inbound.TheVariants.{Enter as NewOrder}
use Rattle.market_types.specs.declared.order.Token.{Token}
use Rattle.draw_streams.specs.Below.{below_of}
use Rattle.draw_streams.proofs.Words.{below-low, word-low}
use Rattle.agent_shell.specs.declared.sending.Sending.{Sending}
use Rattle.agent_shell.specs.declared.sending.Sending.TheVariants.{To, WakeAt}
use Rattle.agent_shell.specs.declared.setting.Kind.{Kind}
use Rattle.agent_shell.specs.declared.setting.Kind.TheVariants.{Watcher, Noise, Value, Momentum, Maker}
use Rattle.agent_shell.specs.declared.shell.OwnOrder.{OwnOrder}
use Rattle.agent_shell.specs.declared.wish.Wish.{Wish}
use Rattle.agent_shell.specs.Bounds.{IsOrder, IsSending, AreSendings}
use Rattle.agent_shell.specs.Decide.{choice_of, chosen, decided, heard_of, quoted, woken}
use Rattle.agent_shell.specs.Ordered.{all_ordered, enter_of, ordered, sent_at, sent_price}
use Rattle.agent_shell.specs.Own.{OwnList, most_own}
use Rattle.agent_shell.specs.Parameters.{IsBetween}
use Rattle.agent_shell.specs.Shell.{Orders}
use Rattle.agent_shell.specs.Sight.{Sight}
use Rattle.agent_shell.specs.Sound.{IsTrader}
use Rattle.agent_shell.specs.Trader.{Trader, trader_word}
use Rattle.agent_shell.specs.Wakeup.{cancel_of, next_wakeup, takes_back}
use Rattle.agent_shell.specs.Tokens.{token_of}
use Rattle.agent_shell.proofs.Few.{IsWish, choice-few}

pub none-sent : (v : Sight) (t : Trader) → AreSendings v t []
none-sent v t = record { few = omega arith; each = All-nil (IsSending v t) }

-- an order that is sent has a price
price-is : (p : ℤ) (price : ℕ) → sent_price p ≡ Some price → IsBetween 1 highest_price price
price-is (negsuc n) price e = absurd (cc e)
price-is (pos n) price e =
    elim (cases_Bool (is_in_range 1 highest_price n)) [
      | inl within ↦
          let same : n ≡ price = same_Some _ _ (rw within at e) in
          subst (IsBetween 1 highest_price) same (record { not_below = grind (arith, nat_tests, within); not_above = grind (arith, nat_tests, within) })
      | inr outside ↦ absurd (cc (rw outside at e))
    ]

at-sent : (v : Sight) (t : Trader) (p : Option ℕ) (w : Wish) (o : Orders) → sent_price w.price ≡ p → IsWish w
    → (length (sent_at p v.symbol w o).sends ≤ 1) × All (IsSending v t) (sent_at p v.symbol w o).sends
at-sent v t None w o e is = (omega arith, All-nil (IsSending v t))
at-sent v t (Some price) w o e is =
    let enter = enter_of v.symbol (token_of o.agent (o.tokens + 1)) w price in
    let order : IsOrder v enter w.extra = record { stock = refl; price = price-is w.price price e; shares = is.shares; soon = is.extra } in
    (omega arith, All-cons (IsSending v t) (To (Order (NewOrder enter)) w.extra) [] order (All-nil (IsSending v t)))

ordered-sent : (v : Sight) (t : Trader) (w : Wish) (o : Orders) → IsWish w
    → (length (ordered v.symbol w o).sends ≤ 1) × All (IsSending v t) (ordered v.symbol w o).sends
ordered-sent v t w o is =
    elim (cases_Bool (nat_lt (length o.own) most_own)) [
      | inl few ↦ rw few (at-sent v t _ w o refl is)
      | inr full ↦ rw full (omega arith, All-nil (IsSending v t))
    ]

all-sent : (v : Sight) (t : Trader) (ws : List Wish) (o : Orders) → All IsWish ws
    → (length (all_ordered v.symbol ws o).sends ≤ length ws) × All (IsSending v t) (all_ordered v.symbol ws o).sends
all-sent v t [] o each = (omega arith, All-nil (IsSending v t))
all-sent v t (w ∷ ws) o each =
    let first = ordered-sent v t w o (All-head IsWish w ws each) in
    let next = (ordered v.symbol w o).orders in
    let rest = all-sent v t ws next (All-tail IsWish w ws each) in
    let sum = length-append (ordered v.symbol w o).sends (all_ordered v.symbol ws next).sends in
    (omega (arith, first.0, rest.0, sum), All-append (IsSending v t) _ _ first.1 rest.1)

chosen-sent : (v : Sight) (t : Trader) (q : Quote) → IsTrader t → AreSendings v t (chosen v t (choice_of v t q)).sends
chosen-sent v t q sound =
    let few = choice-few v t q sound in
    let sent = all-sent v t (choice_of v t q).wishes t.orders few.each in
    record { few = omega (arith, sent.0, few.orders); each = sent.1 }

pub quoted-sent : (v : Sight) (t : Trader) (q : Quote) → IsTrader t → AreSendings v t (quoted v t q).sends
quoted-sent v t q sound =
    elim (cases_Bool (q.state == 84)) [
      | inl trades ↦ rw trades (chosen-sent v t q sound)
      | inr halted ↦ rw halted (none-sent v t)
    ]

cancels-each : (v : Sight) (t : Trader) (own : OwnList) → All (IsSending v t) (map (λ (e : Token × OwnOrder). cancel_of e.0) own)
cancels-each v t [] = All-nil (IsSending v t)
cancels-each v t (e ∷ own) = All-cons (IsSending v t) _ _ (refl, refl) (cancels-each v t own)

cancels-length : (own : OwnList) → length (map (λ (e : Token × OwnOrder). cancel_of e.0) own) ≡ length own
cancels-length [] = refl
cancels-length (e ∷ own) = omega (arith, cancels-length own)

back-few : (kind : Kind) (own : OwnList) → length (takes_back kind own) ≤ length own
back-few Watcher own = omega arith
back-few (Noise size) own = omega arith
back-few (Value size noise margin) own = omega arith
back-few (Momentum size short long) own = omega arith
back-few (Maker size half step levels pause) own = omega arith

ahead : (now every extra wobble : ℕ) → 1 ≤ every → extra < wobble + 1 → (now < now + every + extra) × (now + every + extra ≤ now + every + wobble)
ahead now every extra wobble often low = (omega arith, omega arith)

pub woken-sent : (v : Sight) (t : Trader) → IsTrader t → AreSendings v t (woken v t).sends
woken-sent v t sound =
    let back = takes_back t.setting.kind t.orders.own in
    let cancels = map (λ (e : Token × OwnOrder). cancel_of e.0) back in
    let rest : List Sending = To (Ask t.setting.stock) 0 ∷ WakeAt (next_wakeup v t) ∷ [] in
    let low = below-low (trader_word v t t.draws) (t.setting.wobble + 1) (word-low v.key t.orders.agent t.draws) (omega arith) in
    let often = sound.setting.every.not_below in
    let extra = below_of (trader_word v t t.draws) (t.setting.wobble + 1) in
    let wakeup : List Sending = WakeAt (next_wakeup v t) ∷ [] in
    let later : All (IsSending v t) wakeup =
    All-cons (IsSending v t) (WakeAt (next_wakeup v t)) [] (ahead v.time t.setting.every extra t.setting.wobble often low) (All-nil (IsSending v t)) in
    let last : All (IsSending v t) rest = All-cons (IsSending v t) (To (Ask t.setting.stock) 0) wakeup (refl, refl) later in
    record {
      few = omega (arith, length-append cancels rest, cancels-length back, back-few t.setting.kind t.orders.own, sound.orders.few);
      each = All-append (IsSending v t) cancels rest (cancels-each v t back) last;
    }

pub heard-sent : (v : Sight) (t : Trader) (body : Body) → IsTrader t → AreSendings v t (heard_of v t body).sends
heard-sent v t Wake sound = none-sent v t
heard-sent v t (Order inbound) sound = none-sent v t
heard-sent v t (Answer reply) sound = none-sent v t
heard-sent v t (Ask stock) sound = none-sent v t
heard-sent v t (QuoteBody q) sound = quoted-sent v t q sound

pub decided-sent : (v : Sight) (t : Trader) (body : Body) → IsTrader t → AreSendings v t (decided v t body).sends
decided-sent v t Wake sound = woken-sent v t sound
decided-sent v t (Order inbound) sound = none-sent v t
decided-sent v t (Answer reply) sound = none-sent v t
decided-sent v t (Ask stock) sound = none-sent v t
decided-sent v t (QuoteBody q) sound = quoted-sent v t q sound
