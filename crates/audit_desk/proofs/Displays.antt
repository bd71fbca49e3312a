-- A closing shows the displayed orders and the trading states of its exchange.
use Rattle.std.proofs.Common.{◌≡◌, ◌∙◌, ℕ, zero, suc, ◌≤◌, ◌==◌, Bool, true, false, cond, List, [], ◌∷◌, ◌++◌, length, map, take, refl, ap, sym, arith}
use Rattle.std.specs.List.{filter}
use Rattle.std.proofs.lemmas.List.{get_or-map, length-map, map-append, take_all}
use Rattle.std.proofs.lemmas.List.Elements.{filter-append}
use Rattle.std.proofs.Math.Seq.{take-suc}
use Rattle.bundle_frames.specs.declared.closing.ClosingOrder.{ClosingOrder}
use Rattle.bundle_frames.specs.declared.closing.ClosingStock.{ClosingStock}
use Rattle.price_time_book.specs.declared.resting.Resting.{Resting}
use Rattle.exchange_agent.specs.State.{State as Exchange, Stock, no_stock, stock_at}
use Rattle.market_floor.specs.declared.opening.Opening.{Opening}
use Rattle.market_floor.specs.Floor.{offset_at}
use Rattle.kernel_core.specs.State.{State}
use Rattle.kernel_copy.specs.Closing.{closing_at, order_closed, orders_closed, stock_closed, stocks_closed}
use Rattle.feed_rebuild.specs.declared.shown.Shown.{Shown}
use Rattle.feed_rebuild.specs.Compared.{by_stock}
use Rattle.audit_desk.specs.Audited.{displayed, order_shown, states_of}
use Rattle.market_laws.specs.Shown.{shown_in, shown_of}

abbrev is_shown : ClosingOrder → Bool
is_shown o = o.shown

abbrev rests_shown : Resting → Bool
rests_shown o = o.shown

abbrev trades_as : Stock → ℕ
trades_as k = k.trading

-- the displayed orders of a book, closed
shown-book : (k : ℕ) (book : List Resting) → map order_shown (filter is_shown (map (order_closed k) book)) ≡ map (shown_of k) (filter rests_shown book)
shown-book k [] = refl
shown-book k (r ∷ rs) =
    let rest = shown-book k rs in
    let closed = filter is_shown (map (order_closed k) rs) in
    let resting = filter rests_shown rs in
    elim r.shown as (λ b. map order_shown (cond b (order_closed k r ∷ closed) closed) ≡ map (shown_of k) (cond b (r ∷ resting) resting)) [
      | true ↦ ap (λ (os : List Shown). shown_of k r ∷ os) rest
      | false ↦ rest
    ]

-- those of the first so many books are orders by stock, where each stock's are
pub displayed-by : (x : Exchange) (os : List Shown) → ((k : ℕ) → filter (λ (o : Shown). o.stock == k) os ≡ shown_in x k) → (n : ℕ)
    → map order_shown (filter is_shown (orders_closed x n)) ≡ by_stock n os
displayed-by x os h zero = refl
displayed-by x os h (suc n) =
    let book = (stock_at x n).book in
    let last = map (order_closed n) book in
    ap (map order_shown) (filter-append is_shown (orders_closed x n) last)
    ∙ map-append order_shown (filter is_shown (orders_closed x n)) (filter is_shown last)
    ∙ ap (λ (before : List Shown). before ++ map order_shown (filter is_shown last)) (displayed-by x os h n)
    ∙ ap (λ (own : List Shown). by_stock n os ++ own) (shown-book n book ∙ sym (h n))

abbrev state_in : ClosingStock → ℕ
state_in s = s.state

states-by : (s : State) (n : ℕ) → n ≤ length s.floor.exchange.stocks → map state_in (stocks_closed s n) ≡ take n (map trades_as s.floor.exchange.stocks)
states-by s zero h = sym (nothing (map trades_as s.floor.exchange.stocks))
  where
    nothing : (xs : List ℕ) → take 0 xs ≡ []
    nothing [] = refl
    nothing (x ∷ xs) = refl
states-by s (suc n) h =
    let stocks = s.floor.exchange.stocks in
    let states = map trades_as stocks in
    let long : length states ≡ length stocks = length-map stocks trades_as in
    let own = (stock_at s.floor.exchange n).trading in
    map-append state_in (stocks_closed s n) (stock_closed n (offset_at s.floor n) (stock_at s.floor.exchange n) ∷ [])
    ∙ ap (λ (before : List ℕ). before ++ own ∷ []) (states-by s n (omega (arith, h)))
    ∙ ap (λ (k : ℕ). take n states ++ k ∷ []) (sym (get_or-map trades_as stocks n no_stock 0 (omega (arith, h))))
    ∙ sym (take-suc states n 0 (omega (arith, h, long)))

pub states-are : (o : Opening) (s : State) → states_of (closing_at o s) ≡ map trades_as s.floor.exchange.stocks
states-are o s =
    let stocks = s.floor.exchange.stocks in
    let states = map trades_as stocks in
    states-by s (length stocks) (omega arith) ∙ take_all (length stocks) states (omega (arith, length-map stocks trades_as))

pub displayed-are : (o : Opening) (s : State) (os : List Shown) → ((k : ℕ) → filter (λ (x : Shown). x.stock == k) os ≡ shown_in s.floor.exchange k)
    → displayed (closing_at o s) ≡ by_stock (length s.floor.exchange.stocks) os
displayed-are o s os h = displayed-by s.floor.exchange os h (length s.floor.exchange.stocks)
