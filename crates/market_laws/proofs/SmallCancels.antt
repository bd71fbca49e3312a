-- The order that a Cancel finds.
use Rattle.std.proofs.Common.{◌≡◌, ◌⊎◌, inl, inr, ℕ, suc, ◌+◌, ◌-◌, ◌<◌, ◌≤◌, Bool, true, false, cond, List, [], ◌∷◌, length, slice_index_or, Option, Some, None, arith, subst, ap, sym, find}
use Rattle.std.specs.List.{AllByRecursion}
use Rattle.market_types.specs.declared.order.Token.{Token}
use Rattle.price_time_book.specs.declared.resting.Resting.{Resting}
use Rattle.price_time_book.specs.Orders.{order_of}
use Rattle.exchange_agent.specs.declared.cancel.Found.{Found}
use Rattle.exchange_agent.specs.Cancel.{found_from, found_here}
use Rattle.exchange_agent.specs.State.{Stock, no_stock}

found-by : (b : Bool) (p : Resting → Bool) (P : Resting → Type 0) (x : Resting) (xs : List Resting) (o : Resting) → cond b (Some x) (find p xs) ≡ Some o → P x → (find p xs ≡ Some o → P o) → P o
found-by true p P x xs o e here later = let same : x ≡ o = cc in subst P same here
found-by false p P x xs o e here later = later e

-- what a search finds passes
pub found-passes : (p : Resting → Bool) (P : Resting → Type 0) (xs : List Resting) (o : Resting) → find p xs ≡ Some o → AllByRecursion P xs → P o
found-passes p P [] o e all = absurd cc
found-passes p P (x ∷ xs) o e all = found-by (p x) p P x xs o e all.0 (λ q. found-passes p P xs o q all.1)

some-same : (f g : Found) → Some f ≡ Some g → f ≡ g
some-same f g e = cc

found-one : (i : ℕ) (q : Option Resting) (later : Option Found) (f : Found) → found_here i q later ≡ Some f → ((q ≡ Some f.order) × (f.stock ≡ i)) ⊎ (later ≡ Some f)
found-one i None later f e = inr e
found-one i (Some o) later f e = let same : record { stock = i; order = o } ≡ f = some-same (record { stock = i; order = o }) f e in inl (ap (λ (g : Found). Some g.order) same, sym (ap (λ (g : Found). g.stock) same))

found-at : (i agent : ℕ) (token : Token) (x : Stock) (xs : List Stock) (f : Found) → ((order_of agent token x.book ≡ Some f.order) × (f.stock ≡ i)) ⊎ (found_from (i + 1) agent token xs ≡ Some f) → (found_from (i + 1) agent token xs ≡ Some f → (i + 1 ≤ f.stock) × (f.stock - (i + 1) < length xs) × (order_of agent token (slice_index_or xs (f.stock - (i + 1)) no_stock).book ≡ Some f.order)) → (i ≤ f.stock) × (f.stock - i < length (x ∷ xs)) × (order_of agent token (slice_index_or (x ∷ xs) (f.stock - i) no_stock).book ≡ Some f.order)
found-at i agent token x xs f (inl h) later =
    let zero-is : f.stock - i ≡ 0 = omega (arith, h.1) in
    (omega (arith, h.1), omega (arith, h.1), subst (λ (m : ℕ). order_of agent token (slice_index_or (x ∷ xs) m no_stock).book ≡ Some f.order) (sym zero-is) h.0)
found-at i agent token x xs f (inr e) later =
    let h = later e in
    let more : f.stock - i ≡ suc (f.stock - (i + 1)) = omega (arith, h.0) in
    (omega (arith, h.0), omega (arith, h.0, h.1), subst (λ (m : ℕ). order_of agent token (slice_index_or (x ∷ xs) m no_stock).book ≡ Some f.order) (sym more) h.2)

found-is : (i agent : ℕ) (token : Token) (xs : List Stock) (f : Found) → found_from i agent token xs ≡ Some f → (i ≤ f.stock) × (f.stock - i < length xs) × (order_of agent token (slice_index_or xs (f.stock - i) no_stock).book ≡ Some f.order)
found-is i agent token [] f e = absurd cc
found-is i agent token (x ∷ xs) f e = found-at i agent token x xs f (found-one i (order_of agent token x.book) (found_from (i + 1) agent token xs) f e) (found-is (i + 1) agent token xs f)

-- the stock's number is one of the stocks', and its book has the order
pub found-there : (agent : ℕ) (token : Token) (xs : List Stock) (f : Found) → found_from 0 agent token xs ≡ Some f → (f.stock < length xs) × (order_of agent token (slice_index_or xs f.stock no_stock).book ≡ Some f.order)
found-there agent token xs f e =
    let at = found-is 0 agent token xs f e in
    let same : f.stock - 0 ≡ f.stock = omega arith in
    (omega (arith, at.1), subst (λ (m : ℕ). order_of agent token (slice_index_or xs m no_stock).book ≡ Some f.order) same at.2)
