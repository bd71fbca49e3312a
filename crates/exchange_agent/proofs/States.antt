-- One stock of the inside is replaced, and the state is sound as before.
use Rattle.std.proofs.Common.{◌≡◌, ℕ, zero, suc, ◌<◌, ◌≤◌, ◌^◌, ℤ, pos, List, [], ◌∷◌, map, length, slice_index_or, slice_set, All, arith, ap, subst, sym, ◌∙◌, Bool, true}
use Rattle.std.proofs.lemmas.List.{map-set, length-map, length-replicate}
use Rattle.std.proofs.lemmas.List.Elements.{All-set, All-map, All-nil, All-replicate}
use Rattle.exchange_agent.specs.declared.listing.Listing.{Listing}
use Rattle.exchange_agent.specs.declared.pair.Pair.{Pair}
use Rattle.exchange_agent.specs.declared.told.Counts.{Counts}
use Rattle.exchange_agent.specs.State.{State, Stock, no_stock, stock_at, with_stock}
use Rattle.exchange_agent.specs.Sound.{IsSound, IsSoundStock, IsWithin, is_known}
use Rattle.price_time_book.specs.declared.resting.Resting.{Resting}
use Rattle.exchange_agent.specs.View.{state_of, stock_of}
use Rattle.exchange_agent.specs.declared.told.StockRules.{StockRules}
use Rattle.exchange_agent.specs.Open.{IsOpening, listed}
use Rattle.std.proofs.lemmas.Int.{ints}
use Rattle.std.proofs.lemmas.List.{length-set}

pub at-map : (xs : List Listing) (k : ℕ) (r : Listing) (d : Stock) → k < length xs → r ≡ slice_index_or xs k r → slice_index_or (map stock_of xs) k d ≡ stock_of r
at-map [] k r d h e = absurd (omega (arith, h))
at-map (x ∷ xs) zero r d h e = ap (λ (l : Listing). stock_of l) (sym e)
at-map (x ∷ xs) (suc k) r d h e = at-map xs k r d (omega arith) e

pub at-state : (stocks : List Listing) (cash : List ℤ) (pairs : List Pair) (counts : Counts) (hidden : Bool) (s : State) (k : ℕ) (r : Listing) → s ≡ state_of stocks cash pairs counts hidden → k < length stocks → r ≡ slice_index_or stocks k r → stock_at s k ≡ stock_of r
at-state stocks cash pairs counts hidden s k r e h at = ap (λ (q : State). stock_at q k) e ∙ at-map stocks k r no_stock h at

pub set-state : (stocks : List Listing) (cash : List ℤ) (pairs : List Pair) (counts : Counts) (hidden : Bool) (s : State) (k : ℕ) (l : Listing) (x : Stock) → s ≡ state_of stocks cash pairs counts hidden → stock_of l ≡ x → state_of (slice_set stocks k l) cash pairs counts hidden ≡ with_stock s k x
set-state stocks cash pairs counts hidden s k l x e f =
    ap (λ (xs : List Stock). record { stocks = xs; cash = cash; pairs = pairs; counts = counts; hidden = hidden }) (map-set stock_of stocks k l ∙ ap (λ (y : Stock). slice_set (map stock_of stocks) k y) f)
    ∙ ap (λ (q : State). with_stock q k x) (sym e)

pub sound_at : (stocks : List Listing) (cash : List ℤ) (pairs : List Pair) (counts : Counts) (hidden : Bool) (k : ℕ) (r : Listing) → IsSound (state_of stocks cash pairs counts hidden) → k < length stocks → r ≡ slice_index_or stocks k r → IsSoundStock (length cash) counts.orders pairs (stock_of r)
sound_at stocks cash pairs counts hidden k r sound h at =
    subst (λ (x : Stock). IsSoundStock (length cash) counts.orders pairs x) (at-map stocks k r no_stock h at)
    (sound.stocks k no_stock (subst (λ (n : ℕ). k < n) (sym (length-map stocks stock_of)) h))

pub sound_set : (stocks : List Listing) (cash : List ℤ) (pairs : List Pair) (counts : Counts) (hidden : Bool) (k : ℕ) (l : Listing) → IsSound (state_of stocks cash pairs counts hidden) → IsSoundStock (length cash) counts.orders pairs (stock_of l) → IsSound (state_of (slice_set stocks k l) cash pairs counts hidden)
sound_set stocks cash pairs counts hidden k l sound new =
    let P : Stock → Type 0 = λ (x : Stock). IsSoundStock (length cash) counts.orders pairs x in
    let same : map stock_of (slice_set stocks k l) ≡ slice_set (map stock_of stocks) k (stock_of l) = map-set stock_of stocks k l in
    let long : length (map stock_of (slice_set stocks k l)) ≡ length (map stock_of stocks) = ap (λ (xs : List Stock). length xs) same ∙ length-set (map stock_of stocks) k (stock_of l) in
    record {
      some = omega (arith, sound.some, long);
      few = omega (arith, sound.few, long);
      traders = sound.traders;
      stocks = subst (λ (xs : List Stock). All P xs) (sym same) (All-set P (map stock_of stocks) k (stock_of l) new sound.stocks);
      cash = sound.cash;
      pairs = sound.pairs;
      orders = sound.orders;
      matches = sound.matches;
    }

pub in-stocks : (stocks : List Listing) (cash : List ℤ) (pairs : List Pair) (counts : Counts) (hidden : Bool) (s : State) (j k : ℕ) → s ≡ state_of stocks cash pairs counts hidden → j ≡ k → k < length s.stocks → j < length stocks
in-stocks stocks cash pairs counts hidden s j k e i h =
    let long : length s.stocks ≡ length stocks = ap (λ (q : State). length q.stocks) e ∙ length-map stocks stock_of in
    omega (arith, long, i, h)

-- the state and its soundness where the stock at j, which was r, has become l
pub at-stock : (stocks : List Listing) (cash : List ℤ) (pairs : List Pair) (counts : Counts) (hidden : Bool) (s : State) (j k : ℕ) (r : Listing) → s ≡ state_of stocks cash pairs counts hidden → j ≡ k → k < length s.stocks → r ≡ slice_index_or stocks j r → stock_at s k ≡ stock_of r
at-stock stocks cash pairs counts hidden s j k r e i h at =
    ap (λ (n : ℕ). stock_at s n) (sym i) ∙ at-state stocks cash pairs counts hidden s j r e (in-stocks stocks cash pairs counts hidden s j k e i h) at

pub set-stock : (stocks : List Listing) (cash : List ℤ) (pairs : List Pair) (counts : Counts) (hidden : Bool) (s : State) (j k : ℕ) (l : Listing) (x : Stock) → s ≡ state_of stocks cash pairs counts hidden → j ≡ k → stock_of l ≡ x → state_of (slice_set stocks j l) cash pairs counts hidden ≡ with_stock s k x
set-stock stocks cash pairs counts hidden s j k l x e i f = set-state stocks cash pairs counts hidden s j l x e f ∙ ap (λ (n : ℕ). with_stock s n x) i

pub sound-stock : (stocks : List Listing) (cash : List ℤ) (pairs : List Pair) (counts : Counts) (hidden : Bool) (s : State) (j k : ℕ) (r : Listing) → s ≡ state_of stocks cash pairs counts hidden → IsSound (state_of stocks cash pairs counts hidden) → j ≡ k → k < length s.stocks → r ≡ slice_index_or stocks j r → IsSoundStock (length cash) counts.orders pairs (stock_of r)
sound-stock stocks cash pairs counts hidden s j k r e sound i h at = sound_at stocks cash pairs counts hidden j r sound (in-stocks stocks cash pairs counts hidden s j k e i h) at

-- a stock stays sound under another book of known orders that is no longer
pub rebooked-sound : (agents orders : ℕ) (pairs : List Pair) (x : Stock) (book : List Resting) → IsSoundStock agents orders pairs x → All (λ (o : Resting). is_known agents orders pairs o ≡ true) book → length book ≤ length x.book → IsSoundStock agents orders pairs (record x { book = book })
rebooked-sound agents orders pairs x book h known shorter = record { known = known; few = omega (arith, h.few, shorter); traders = h.traders; matched = h.matched; taken = h.taken; positions = h.positions }

listed-sound : (n : ℕ) (r : StockRules) → IsSoundStock n 0 [] (listed n r)
listed-sound n r = record {
  known = All-nil (λ (o : Resting). is_known n 0 [] o ≡ true);
  few = omega arith;
  traders = length-replicate n (pos 0);
  matched = omega arith;
  taken = record { low = omega (arith, ints); high = omega (arith, ints) };
  positions = All-replicate (IsWithin 0) n (pos 0) (record { low = omega (arith, ints); high = omega (arith, ints) });
}

pub sound_opened : (rules : List StockRules) (opening : List ℤ) (stocks : List Listing) (cash : List ℤ) (pairs : List Pair) (hidden : Bool) → IsOpening rules opening → map stock_of stocks ≡ map (listed (length opening)) rules → cash ≡ opening → pairs ≡ [] → All (IsWithin (2 ^ 63)) cash → IsSound (state_of stocks cash pairs (record { orders = 0; matches = 0; enters = 0; cancels = 0 }) hidden)
sound_opened rules opening stocks cash pairs hidden h stocks-are cash-is none small =
    let n = length opening in
    let long : length (map stock_of stocks) ≡ length rules = ap (λ (xs : List Stock). length xs) stocks-are ∙ length-map rules (listed n) in
    let many : length cash ≡ n = ap (λ (xs : List ℤ). length xs) cash-is in
    let empty : length pairs ≡ 0 = ap (λ (xs : List Pair). length xs) none in
    let each : All (λ (x : Stock). IsSoundStock n 0 [] x) (map stock_of stocks) =
    subst (λ (xs : List Stock). All (λ (x : Stock). IsSoundStock n 0 [] x) xs) (sym stocks-are) (All-map (λ (x : Stock). IsSoundStock n 0 [] x) (listed n) rules (λ k d in'. listed-sound n (slice_index_or rules k d))) in
    record {
      some = omega (arith, long, h.some);
      few = omega (arith, long, h.few);
      traders = omega (arith, many, h.traders);
      stocks = subst (λ (ps : List Pair). All (λ (x : Stock). IsSoundStock (length cash) 0 ps x) (map stock_of stocks)) (sym none) (subst (λ (m : ℕ). All (λ (x : Stock). IsSoundStock m 0 [] x) (map stock_of stocks)) (sym many) each);
      cash = small;
      pairs = omega (arith, empty);
      orders = omega arith;
      matches = omega arith;
    }
