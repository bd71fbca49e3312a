-- What stands around the feed of a branch's entries tells nothing.
use Rattle.std.proofs.Common.{◌≡◌, ◌∙◌, ℕ, zero, suc, ◌+◌, ◌-◌, ◌<◌, ◌≤◌, true, List, [], ◌∷◌, ◌++◌, length, Result, Ok, Err, refl, ap, arith}
use Rattle.std.specs.Prelude.{nat_le, replicate, slice_set}
use Rattle.std.proofs.lemmas.Bool.{le-leb}
use Rattle.std.proofs.lemmas.List.{length-replicate}
use Rattle.market_types.specs.declared.feed.Feed.{Feed}
use Rattle.market_floor.specs.declared.opening.Opening.{Opening}
use Rattle.trace_bundle.specs.Feed.{directories, directory, opening_feed, symbol_at, system_event, trading, tradings}
use Rattle.feed_rebuild.specs.Fold.{acted, fold, fresh, told_by, Told}
use Rattle.market_laws.proofs.ShownRuns.{told-append}

set-replicate : (n k a : ℕ) → slice_set (replicate n a) k a ≡ replicate n a
set-replicate zero k a = refl
set-replicate (suc n) zero a = refl
set-replicate (suc n) (suc k) a = ap (λ (xs : List ℕ). a ∷ xs) (set-replicate n k a)

-- a stock that trades goes on to trade
trades-on : (n k : ℕ) → k < n → acted (fresh n) (k + 1) 84 ≡ Ok (fresh n)
trades-on n k h =
    let long : length {A = ℕ} (replicate n 84) ≡ n = length-replicate n 84 in
    let one : nat_le 1 (k + 1) ≡ true = le-leb 1 (k + 1) (omega arith) in
    let all : nat_le (k + 1) (length {A = ℕ} (replicate n 84)) ≡ true = le-leb (k + 1) (length {A = ℕ} (replicate n 84)) (omega (arith, long, h)) in
    let at : k + 1 - 1 ≡ k = omega arith in
    rw (one, all, at, set-replicate n k 84) refl

directories-tell_nothing : (o : Opening) (t : Told) (n : ℕ) → told_by (Ok t) (directories o n) ≡ Ok t
directories-tell_nothing o t zero = refl
directories-tell_nothing o t (suc n) =
    let last = directory o.start n (symbol_at o n) ∷ [] in
    told-append (Ok t) (directories o n) last ∙ ap (λ (r : Result Told ℕ). told_by r last) (directories-tell_nothing o t n)

tradings-tell_nothing : (o : Opening) (n k : ℕ) → k ≤ n → told_by (Ok (fresh n)) (tradings o k) ≡ Ok (fresh n)
tradings-tell_nothing o n zero h = refl
tradings-tell_nothing o n (suc k) h =
    let last = trading o.start k (symbol_at o k) ∷ [] in
    told-append (Ok (fresh n)) (tradings o k) last
    ∙ ap (λ (r : Result Told ℕ). told_by r last) (tradings-tell_nothing o n k (omega (arith, h)))
    ∙ trades-on n k (omega (arith, h))

opening-tells_nothing : (o : Opening) → told_by (Ok (fresh (length o.stocks))) (opening_feed o) ≡ Ok (fresh (length o.stocks))
opening-tells_nothing o =
    let n = length o.stocks in
    told-append (Ok (fresh n)) (directories o n) (tradings o n)
    ∙ ap (λ (r : Result Told ℕ). told_by r (tradings o n)) (directories-tell_nothing o (fresh n) n)
    ∙ tradings-tell_nothing o n n (omega arith)

end-tells_nothing : (r : Result Told ℕ) (time : ℕ) → told_by r (system_event time 67 ∷ []) ≡ r
end-tells_nothing (Ok t) time = refl
end-tells_nothing (Err n) time = refl

-- a branch's feed tells what that of its entries does
pub around : (o : Opening) (feed : List Feed) (time : ℕ) → fold (length o.stocks) (opening_feed o ++ (feed ++ system_event time 67 ∷ [])) ≡ fold (length o.stocks) feed
unfolding fold
around o feed time =
    let start : Result Told ℕ = Ok (fresh (length o.stocks)) in
    let rest = feed ++ system_event time 67 ∷ [] in
    told-append start (opening_feed o) rest
    ∙ ap (λ (r : Result Told ℕ). told_by r rest) (opening-tells_nothing o)
    ∙ told-append start feed (system_event time 67 ∷ [])
    ∙ end-tells_nothing (told_by start feed) time
