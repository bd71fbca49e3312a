-- What a trader sends has its texts in their ranges, where the symbol of its stock has.
use Rattle.std.proofs.Common.{◌≡◌, ℕ, ◌+◌, true, false, List, [], ◌∷◌, map, length, All, Option, Some, None, refl, inl, inr}
use Rattle.std.specs.Prelude.{◌==◌, nat_lt, if◌then◌else◌}
use Rattle.std.proofs.lemmas.Bool.{cases_Bool}
use Rattle.std.proofs.lemmas.List.Elements.{All-append, All-cons, All-head, All-nil, All-tail, All-weaker}
use Rattle.market_types.specs.declared.message.Body.{Body}
use Rattle.market_types.specs.declared.message.Body.TheVariants.{Wake, Order, Answer, Ask, Quote as QuoteBody}
use Rattle.market_types.specs.declared.message.Quote.{Quote}
use Rattle.market_types.specs.declared.order.Inbound.TheVariants.{Enter as NewOrder}
use Rattle.market_types.specs.declared.order.Symbol.{Symbol}
use Rattle.market_types.specs.declared.order.Token.{Token}
use Rattle.wire_fields.specs.declared.kind.Kind.TheVariants.{Text}
use Rattle.wire_fields.specs.Values.{bytes, is_in_range}
use Rattle.agent_shell.specs.declared.sending.Sending.{Sending}
use Rattle.agent_shell.specs.declared.sending.Sending.TheVariants.{To, WakeAt}
use Rattle.agent_shell.specs.declared.setting.Kind.{Kind}
use Rattle.agent_shell.specs.declared.setting.Kind.TheVariants.{Watcher, Noise, Value, Momentum, Maker}
use Rattle.agent_shell.specs.declared.shell.OwnOrder.{OwnOrder}
use Rattle.agent_shell.specs.declared.wish.Wish.{Wish}
use Rattle.agent_shell.specs.Decide.{Decided, choice_of, chosen, counted, decided, quoted, woken}
use Rattle.agent_shell.specs.Ordered.{all_ordered, enter_of, ordered, sent_at, sent_price}
use Rattle.agent_shell.specs.Own.{OwnList, most_own}
use Rattle.agent_shell.specs.Shell.{Orders}
use Rattle.agent_shell.specs.Sight.{Sight}
use Rattle.agent_shell.specs.Sound.{IsOwn}
use Rattle.agent_shell.specs.Tokens.{IsGiven, token_of}
use Rattle.agent_shell.specs.Trader.{Trader}
use Rattle.agent_shell.specs.Wakeup.{cancel_of, next_wakeup, takes_back}
use Rattle.agent_shell.proofs.Kept.{all-own, replied-own}
use Rattle.market_floor.specs.Party.{PartyState, reacted, silenced}
use Rattle.market_laws.specs.Texts.{HasBodyTexts, IsToken}
use Rattle.market_laws.proofs.Spellings.{cancel-texts, enter-texts, firm, letter-n, letter-p, letter-y}
use Rattle.market_laws.proofs.Tokens.{given-in, token-in}

abbrev pub IsName : Symbol → Type 0
IsName symbol = is_in_range (Text 8) (bytes symbol.0) ≡ true

abbrev pub HasSendingTexts : Sending → Type 0
HasSendingTexts (To body extra) = HasBodyTexts body
HasSendingTexts (WakeAt time) = Unit {0}

none : All HasSendingTexts []
none = All-nil HasSendingTexts

-- ---- orders

at-texts : (p : Option ℕ) (symbol : Symbol) (w : Wish) (o : Orders) → IsName symbol → All HasSendingTexts (sent_at p symbol w o).sends
at-texts None symbol w o name = none
at-texts (Some price) symbol w o name =
    let token = token_of o.agent (o.tokens + 1) in
    let enter = enter_of symbol token w price in
    let texts : HasSendingTexts (To (Order (NewOrder enter)) w.extra) = enter-texts enter (record {
      token = token-in o.agent (o.tokens + 1);
      stock = name;
      firm = firm;
      display = letter-y;
      capacity = letter-p;
      sweep = letter-n;
      cross = letter-n;
      customer = letter-n;
    }) in
    All-cons HasSendingTexts (To (Order (NewOrder enter)) w.extra) [] texts none

ordered-texts : (symbol : Symbol) (w : Wish) (o : Orders) → IsName symbol → All HasSendingTexts (ordered symbol w o).sends
ordered-texts symbol w o name = elim (cases_Bool (nat_lt (length o.own) most_own)) [
  | inl few ↦ rw few (at-texts (sent_price w.price) symbol w o name)
  | inr full ↦ rw full none
]

orders-texts : (symbol : Symbol) (ws : List Wish) (o : Orders) → IsName symbol → All HasSendingTexts (all_ordered symbol ws o).sends
orders-texts symbol [] o name = none
orders-texts symbol (w ∷ ws) o name =
    All-append HasSendingTexts (ordered symbol w o).sends (all_ordered symbol ws (ordered symbol w o).orders).sends
    (ordered-texts symbol w o name) (orders-texts symbol ws (ordered symbol w o).orders name)

-- ---- a wakeup

abbrev IsOwnToken : Token × OwnOrder → Type 0
IsOwnToken e = IsToken e.0

own-tokens : (o : Orders) → IsOwn o → All IsOwnToken o.own
own-tokens o h = All-weaker (λ (e : Token × OwnOrder). IsGiven o.agent o.tokens e.0) IsOwnToken (λ e g. given-in o.agent o.tokens e.0 g) o.own h.given

back-tokens : (kind : Kind) (own : OwnList) → All IsOwnToken own → All IsOwnToken (takes_back kind own)
back-tokens Watcher own h = All-nil IsOwnToken
back-tokens (Noise size) own h = All-nil IsOwnToken
back-tokens (Value size noise margin) own h = h
back-tokens (Momentum size short long) own h = All-nil IsOwnToken
back-tokens (Maker size half step levels pause) own h = h

cancels-texts : (own : OwnList) → All IsOwnToken own → All HasSendingTexts (map (λ (e : Token × OwnOrder). cancel_of e.0) own)
cancels-texts [] h = none
cancels-texts (e ∷ own) h =
    All-cons HasSendingTexts (cancel_of e.0) (map (λ (x : Token × OwnOrder). cancel_of x.0) own) (cancel-texts e.0 0 (All-head IsOwnToken e own h))
    (cancels-texts own (All-tail IsOwnToken e own h))

woken-texts : (v : Sight) (t : Trader) → IsOwn t.orders → All HasSendingTexts (woken v t).sends
woken-texts v t h =
    let back = takes_back t.setting.kind t.orders.own in
    let wakeup : Sending = WakeAt (next_wakeup v t) in
    All-append HasSendingTexts (map (λ (e : Token × OwnOrder). cancel_of e.0) back) (To (Ask t.setting.stock) 0 ∷ wakeup ∷ [])
    (cancels-texts back (back-tokens t.setting.kind t.orders.own (own-tokens t.orders h)))
    (All-cons HasSendingTexts (To (Ask t.setting.stock) 0) (wakeup ∷ []) tt (All-cons HasSendingTexts wakeup [] tt none))

-- ---- decisions

-- A decision keeps the trader's setting and its own list, and what it sends has its texts.
pub record IsSpelledDecision (t : Trader) (d : Decided) : Type 0 where
  pub setting : d.trader.setting ≡ t.setting
  pub own : IsOwn d.trader.orders
  pub sends : All HasSendingTexts d.sends

unmoved-spelled : (t : Trader) → IsOwn t.orders → IsSpelledDecision t (record { trader = t; sends = [] })
unmoved-spelled t h = record { setting = refl; own = h; sends = none }

quoted-spelled : (v : Sight) (t : Trader) (q : Quote) → IsName v.symbol → IsOwn t.orders → IsSpelledDecision t (quoted v t q)
quoted-spelled v t q name h =
    let ws = (choice_of v t q).wishes in
    let choice : IsSpelledDecision t (chosen v t (choice_of v t q)) = record { setting = refl; own = all-own v.symbol ws t.orders h; sends = orders-texts v.symbol ws t.orders name } in
    let count : IsSpelledDecision t (counted t) = record { setting = refl; own = h; sends = none } in
    elim (q.state == 84) as (λ b. IsSpelledDecision t (if b then chosen v t (choice_of v t q) else counted t)) [ true ↦ choice | false ↦ count ]

decided-spelled : (v : Sight) (t : Trader) (b : Body) → IsName v.symbol → IsOwn t.orders → IsSpelledDecision t (decided v t b)
decided-spelled v t Wake name h = record { setting = refl; own = h; sends = woken-texts v t h }
decided-spelled v t (Order inbound) name h = unmoved-spelled t h
decided-spelled v t (Answer reply) name h = record { setting = refl; own = replied-own reply t.orders h; sends = none }
decided-spelled v t (Ask stock) name h = unmoved-spelled t h
decided-spelled v t (QuoteBody q) name h = quoted-spelled v t q name h

silenced-spelled : (t : Trader) (b : Body) → IsOwn t.orders → IsSpelledDecision t (silenced t b)
silenced-spelled t Wake h = unmoved-spelled t h
silenced-spelled t (Order inbound) h = unmoved-spelled t h
silenced-spelled t (Answer reply) h = record { setting = refl; own = replied-own reply t.orders h; sends = none }
silenced-spelled t (Ask stock) h = unmoved-spelled t h
silenced-spelled t (QuoteBody q) h = unmoved-spelled t h

-- what a trader does with a message
pub reacted-spelled : (v : Sight) (p : PartyState) (b : Body) → IsName v.symbol → IsOwn p.trader.orders → IsSpelledDecision p.trader (reacted v p b)
reacted-spelled v p b name h =
    elim p.silent as (λ s. IsSpelledDecision p.trader (if s then silenced p.trader b else decided v p.trader b)) [
      | true ↦ silenced-spelled p.trader b h
      | false ↦ decided-spelled v p.trader b name h
    ]
