-- What is known of orders stays known once a pair more is remembered and more orders were accepted.
use Rattle.std.proofs.Common.{◌≡◌, ℕ, ◌+◌, ◌<◌, ◌≤◌, ◌*◌, ◌^◌, Bool, true, false, ◌&&◌, ℤ, List, map, length, slice_set, All, arith, ap, subst, sym, ◌∙◌, refl}
use Rattle.std.specs.Prelude.{nat_le}
use Rattle.std.specs.BTreeMap.{is_at}
use Rattle.std.proofs.lemmas.Bool.Decides.{nat_tests}
use Rattle.std.proofs.lemmas.List.{map-set, length-set}
use Rattle.std.proofs.lemmas.List.Elements.{All-set, All-weaker}
use Rattle.price_time_book.specs.declared.resting.Resting.{Resting}
use Rattle.exchange_agent.specs.declared.listing.Listing.{Listing}
use Rattle.exchange_agent.specs.declared.pair.Pair.{Pair}
use Rattle.exchange_agent.specs.declared.told.Counts.{Counts}
use Rattle.exchange_agent.specs.Pairs.{by_pair, has_pair, pair_of, with_pair}
use Rattle.exchange_agent.specs.Sound.{IsSound, IsSoundStock, IsWithin, is_known, is_trader}
use Rattle.exchange_agent.specs.State.{Stock}
use Rattle.exchange_agent.specs.View.{state_of, stock_of}
use Rattle.exchange_agent.proofs.Pairs.{any-insert_key, length-insert_key}
use Rattle.exchange_agent.proofs.Withins.{all-within, within-more}

pub and-first : (a b : Bool) → (a && b) ≡ true → a ≡ true
and-first true b e = refl
and-first false b e = e

pub and-second : (a b : Bool) → (a && b) ≡ true → b ≡ true
and-second true b e = e
and-second false b e = absurd cc

pub and-both : (a b : Bool) → a ≡ true → b ≡ true → (a && b) ≡ true
and-both true b e f = f
and-both false b e f = e

at_most-more : (n orders more : ℕ) → orders ≤ more → nat_le n orders ≡ true → nat_le n more ≡ true
at_most-more n orders more le e = grind (arith, nat_tests)

pub known-trader : (agents orders : ℕ) (pairs : List Pair) (o : Resting) → is_known agents orders pairs o ≡ true → is_trader agents o ≡ true
known-trader agents orders pairs o e = and-first (is_trader agents o) (nat_le o.reference orders && has_pair (pair_of o.agent o.token) pairs) e

pub known-reference : (agents orders : ℕ) (pairs : List Pair) (o : Resting) → is_known agents orders pairs o ≡ true → nat_le o.reference orders ≡ true
known-reference agents orders pairs o e = and-first (nat_le o.reference orders) (has_pair (pair_of o.agent o.token) pairs) (and-second (is_trader agents o) (nat_le o.reference orders && has_pair (pair_of o.agent o.token) pairs) e)

pub known-pair : (agents orders : ℕ) (pairs : List Pair) (o : Resting) → is_known agents orders pairs o ≡ true → has_pair (pair_of o.agent o.token) pairs ≡ true
known-pair agents orders pairs o e = and-second (nat_le o.reference orders) (has_pair (pair_of o.agent o.token) pairs) (and-second (is_trader agents o) (nat_le o.reference orders && has_pair (pair_of o.agent o.token) pairs) e)

pub known-more : (agents orders more : ℕ) (pairs : List Pair) (p : Pair) (o : Resting) → orders ≤ more → is_known agents orders pairs o ≡ true → is_known agents more (with_pair p pairs) o ≡ true
known-more agents orders more pairs p o le e =
    and-both (is_trader agents o) (nat_le o.reference more && has_pair (pair_of o.agent o.token) (with_pair p pairs)) (known-trader agents orders pairs o e)
    (and-both (nat_le o.reference more) (has_pair (pair_of o.agent o.token) (with_pair p pairs)) (at_most-more o.reference orders more le (known-reference agents orders pairs o e))
    (any-insert_key (is_at (by_pair (pair_of o.agent o.token))) by_pair p pairs (known-pair agents orders pairs o e)))

pub stock-more : (agents orders more : ℕ) (pairs : List Pair) (p : Pair) (x : Stock) → orders ≤ more → IsSoundStock agents orders pairs x → IsSoundStock agents more (with_pair p pairs) x
stock-more agents orders more pairs p x le h = record {
  known = All-weaker (λ (o : Resting). is_known agents orders pairs o ≡ true) (λ (o : Resting). is_known agents more (with_pair p pairs) o ≡ true) (λ o e. known-more agents orders more pairs p o le e) x.book h.known;
  few = omega (arith, le, h.few);
  traders = h.traders;
  matched = omega (arith, le, h.matched);
  taken = within-more (2 ^ 53 * orders) (2 ^ 53 * more) x.tally.taken (omega (arith, le)) h.taken;
  positions = all-within (2000000 * orders) (2000000 * more) x.tally.positions (omega (arith, le)) h.positions;
}

pub stocks-more : (agents orders more : ℕ) (pairs : List Pair) (p : Pair) (xs : List Stock) → orders ≤ more → All (IsSoundStock agents orders pairs) xs → All (IsSoundStock agents more (with_pair p pairs)) xs
stocks-more agents orders more pairs p xs le h = All-weaker (IsSoundStock agents orders pairs) (IsSoundStock agents more (with_pair p pairs)) (λ x k. stock-more agents orders more pairs p x le k) xs h

-- a pair that is not there yet is one more
pub length-with_pair : (p : Pair) (pairs : List Pair) → has_pair p pairs ≡ false → length (with_pair p pairs) ≡ length pairs + 1
length-with_pair p pairs e = length-insert_key by_pair p pairs e

-- the state stays sound once a pair more is remembered
pub sound-remembering : (stocks : List Listing) (cash : List ℤ) (pairs : List Pair) (counts : Counts) (hidden : Bool) (p : Pair) (after : List Pair) → IsSound (state_of stocks cash pairs counts hidden) → after ≡ with_pair p pairs → length pairs ≤ length after → length after ≤ 131072 → IsSound (state_of stocks cash after counts hidden)
sound-remembering stocks cash pairs counts hidden p after h is-after longer few = record {
  some = h.some;
  few = h.few;
  traders = h.traders;
  stocks = subst (λ (ps : List Pair). All (IsSoundStock (length cash) counts.orders ps) (map stock_of stocks)) (sym is-after) (stocks-more (length cash) counts.orders counts.orders pairs p (map stock_of stocks) (omega arith) h.stocks);
  cash = h.cash;
  pairs = few;
  orders = omega (arith, h.orders, longer);
  matches = h.matches;
}

-- the state is sound once an order was accepted at one stock
pub sound-accepted : (stocks : List Listing) (cash cash-after : List ℤ) (pairs : List Pair) (p : Pair) (pairs-after : List Pair) (counts counts-after : Counts) (hidden : Bool) (k : ℕ) (l : Listing) → IsSound (state_of stocks cash pairs counts hidden) → pairs-after ≡ with_pair p pairs → has_pair p pairs ≡ false → length pairs < 131072 → length cash-after ≡ length cash → counts-after.orders ≡ counts.orders + 1 → counts-after.matches ≤ 1000000 * (counts.orders + 1) → All (IsWithin (2 ^ 63 + 2 ^ 61 * (counts.orders + 1))) cash-after → IsSoundStock (length cash-after) counts-after.orders pairs-after (stock_of l) → IsSound (state_of (slice_set stocks k l) cash-after pairs-after counts-after hidden)
sound-accepted stocks cash cash-after pairs p pairs-after counts counts-after hidden k l h is-pairs new room same-cash orders matches money stock =
    let long : length (map stock_of (slice_set stocks k l)) ≡ length (map stock_of stocks) = ap (λ (xs : List Stock). length xs) (map-set stock_of stocks k l) ∙ length-set (map stock_of stocks) k (stock_of l) in
    let more : length pairs-after ≡ length pairs + 1 = ap (λ (ps : List Pair). length ps) is-pairs ∙ length-with_pair p pairs new in
    let P : Stock → Type 0 = IsSoundStock (length cash-after) counts-after.orders pairs-after in
    let others : All (IsSoundStock (length cash) (counts.orders + 1) (with_pair p pairs)) (map stock_of stocks) = stocks-more (length cash) counts.orders (counts.orders + 1) pairs p (map stock_of stocks) (omega arith) h.stocks in
    let others-2 : All (IsSoundStock (length cash-after) (counts.orders + 1) (with_pair p pairs)) (map stock_of stocks) = subst (λ (n : ℕ). All (IsSoundStock n (counts.orders + 1) (with_pair p pairs)) (map stock_of stocks)) (sym same-cash) others in
    let others-3 : All (IsSoundStock (length cash-after) counts-after.orders (with_pair p pairs)) (map stock_of stocks) = subst (λ (n : ℕ). All (IsSoundStock (length cash-after) n (with_pair p pairs)) (map stock_of stocks)) (sym orders) others-2 in
    let others-4 : All P (map stock_of stocks) = subst (λ (ps : List Pair). All (IsSoundStock (length cash-after) counts-after.orders ps) (map stock_of stocks)) (sym is-pairs) others-3 in
    record {
      some = omega (arith, long, h.some);
      few = omega (arith, long, h.few);
      traders = omega (arith, same-cash, h.traders);
      stocks = subst (λ (xs : List Stock). All P xs) (sym (map-set stock_of stocks k l)) (All-set P (map stock_of stocks) k (stock_of l) stock others-4);
      cash = subst (λ (n : ℕ). All (IsWithin (2 ^ 63 + 2 ^ 61 * n)) cash-after) (sym orders) money;
      pairs = omega (arith, more, room);
      orders = omega (arith, more, orders, h.orders);
      matches = omega (arith, orders, matches);
    }
