-- The closing of a branch is read.
use Rattle.std.proofs.Common.{◌≡◌, ◌∙◌, ℕ, ◌+◌, ◌<◌, ◌==◌, nat_lt, Bool, true, ◌&&◌, List, [], ◌∷◌, ◌++◌, length, map, Some, None, if◌then◌else◌, refl, sym, ap, subst, append_assoc, arith}
use Rattle.std.proofs.lemmas.List.{append-nil, length-append}
use Rattle.market_types.specs.declared.feed.Feed.{Feed}
use Rattle.market_types.specs.Told.{EntryTold}
use Rattle.bundle_frames.specs.declared.closing.Closing.{Closing}
use Rattle.bundle_frames.specs.declared.closing.ClosingCounts.{ClosingCounts}
use Rattle.bundle_frames.specs.declared.closing.ClosingStock.{ClosingStock}
use Rattle.bundle_frames.specs.declared.closing.ClosingOrder.{ClosingOrder}
use Rattle.bundle_frames.specs.declared.closing.ClosingAgent.{ClosingAgent}
use Rattle.bundle_reader.specs.declared.frame.Frame.TheVariants as frame
use Rattle.bundle_reader.specs.Told.{BegunTold, WholeTold, closing}
use Rattle.bundle_reader.specs.Order.{more_closing, taken}
use Rattle.bundle_reader.specs.Bundle.{AreStocks, AreAgents}
use Rattle.bundle_reader.proofs.Runs.{takes, takes_then}

-- a closing of these parts
abbrev pub parts : ClosingCounts → List ClosingStock → List ClosingOrder → List ClosingAgent → Closing
parts counts stocks orders agents = record { counts = counts; stocks = stocks; orders = orders; agents = agents }

both_true : (a b : Bool) → a ≡ true → b ≡ true → (a && b) ≡ true
both_true a b p q = ap (λ t. t && b) p ∙ q

same_true : (m n : ℕ) → m ≡ n → (m == n) ≡ true
same_true m n e = grind arith

less_true : (m n : ℕ) → m < n → nat_lt m n ≡ true
less_true m n e = grind arith

stock_taken : (w : WholeTold) (b : BegunTold) (es : List EntryTold) (m : Feed) (counts : ClosingCounts) (ss : List ClosingStock) (s : ClosingStock)
    → length ss < w.header.stocks → s.stock ≡ length ss
    → taken (closing w b es m (parts counts ss [] [])) (frame.Stock s) ≡ Some (closing w b es m (parts counts (ss ++ s ∷ []) [] []))
unfolding taken
stock_taken w b es m counts ss s less is =
    ap (λ t. more_closing w b es m (if t then Some (parts counts (ss ++ s ∷ []) [] []) else None))
    (both_true (nat_lt (length ss) w.header.stocks) (s.stock == length ss) (less_true (length ss) w.header.stocks less) (same_true s.stock (length ss) is))

pub stocks_read : (w : WholeTold) (b : BegunTold) (es : List EntryTold) (m : Feed) (counts : ClosingCounts) (ss xs : List ClosingStock)
    → length ss + length xs ≡ w.header.stocks → AreStocks (length ss) xs
    → takes (closing w b es m (parts counts ss [] [])) (map frame.Stock xs) ≡ Some (closing w b es m (parts counts (ss ++ xs) [] []))
stocks_read w b es m counts ss [] count are = ap (λ l. Some (closing w b es m (parts counts l [] []))) (sym (append-nil ss))
stocks_read w b es m counts ss (x ∷ xs) count are =
    let len : length (ss ++ x ∷ []) ≡ length ss + 1 = length-append ss (x ∷ []) in
    let P : ℕ → Type 0 = λ n. AreStocks n xs in
    takes_then (closing w b es m (parts counts ss [] [])) (closing w b es m (parts counts (ss ++ x ∷ []) [] [])) (closing w b es m (parts counts (ss ++ x ∷ xs) [] [])) (frame.Stock x) (map frame.Stock xs)
    (stock_taken w b es m counts ss x (omega (arith, count)) are.0)
    (stocks_read w b es m counts (ss ++ x ∷ []) xs (omega (arith, len, count)) (subst P (sym len) are.1)
    ∙ ap (λ l. Some (closing w b es m (parts counts l [] []))) (append_assoc ss (x ∷ []) xs))

order_taken : (w : WholeTold) (b : BegunTold) (es : List EntryTold) (m : Feed) (counts : ClosingCounts) (ss : List ClosingStock) (os : List ClosingOrder) (o : ClosingOrder)
    → length ss ≡ w.header.stocks
    → taken (closing w b es m (parts counts ss os [])) (frame.Order o) ≡ Some (closing w b es m (parts counts ss (os ++ o ∷ []) []))
unfolding taken
order_taken w b es m counts ss os o is =
    ap (λ t. more_closing w b es m (if t then Some (parts counts ss (os ++ o ∷ []) []) else None))
    (both_true (length ss == w.header.stocks) true (same_true (length ss) w.header.stocks is) refl)

pub orders_read : (w : WholeTold) (b : BegunTold) (es : List EntryTold) (m : Feed) (counts : ClosingCounts) (ss : List ClosingStock) (os xs : List ClosingOrder)
    → length ss ≡ w.header.stocks
    → takes (closing w b es m (parts counts ss os [])) (map frame.Order xs) ≡ Some (closing w b es m (parts counts ss (os ++ xs) []))
orders_read w b es m counts ss os [] is = ap (λ l. Some (closing w b es m (parts counts ss l []))) (sym (append-nil os))
orders_read w b es m counts ss os (x ∷ xs) is =
    takes_then (closing w b es m (parts counts ss os [])) (closing w b es m (parts counts ss (os ++ x ∷ []) [])) (closing w b es m (parts counts ss (os ++ x ∷ xs) [])) (frame.Order x) (map frame.Order xs)
    (order_taken w b es m counts ss os x is)
    (orders_read w b es m counts ss (os ++ x ∷ []) xs is ∙ ap (λ l. Some (closing w b es m (parts counts ss l []))) (append_assoc os (x ∷ []) xs))

agent_taken : (w : WholeTold) (b : BegunTold) (es : List EntryTold) (m : Feed) (counts : ClosingCounts) (ss : List ClosingStock) (os : List ClosingOrder) (as_ : List ClosingAgent) (a : ClosingAgent)
    → length ss ≡ w.header.stocks → length as_ < w.header.agents → a.agent ≡ length as_
    → taken (closing w b es m (parts counts ss os as_)) (frame.Agent a) ≡ Some (closing w b es m (parts counts ss os (as_ ++ a ∷ [])))
unfolding taken
agent_taken w b es m counts ss os as_ a all less is =
    ap (λ t. more_closing w b es m (if t then Some (parts counts ss os (as_ ++ a ∷ [])) else None))
    (both_true (length ss == w.header.stocks) (nat_lt (length as_) w.header.agents && (a.agent == length as_)) (same_true (length ss) w.header.stocks all)
    (both_true (nat_lt (length as_) w.header.agents) (a.agent == length as_) (less_true (length as_) w.header.agents less) (same_true a.agent (length as_) is)))

pub agents_read : (w : WholeTold) (b : BegunTold) (es : List EntryTold) (m : Feed) (counts : ClosingCounts) (ss : List ClosingStock) (os : List ClosingOrder) (as_ xs : List ClosingAgent)
    → length ss ≡ w.header.stocks → length as_ + length xs ≡ w.header.agents → AreAgents (length as_) xs
    → takes (closing w b es m (parts counts ss os as_)) (map frame.Agent xs) ≡ Some (closing w b es m (parts counts ss os (as_ ++ xs)))
agents_read w b es m counts ss os as_ [] all count are = ap (λ l. Some (closing w b es m (parts counts ss os l))) (sym (append-nil as_))
agents_read w b es m counts ss os as_ (x ∷ xs) all count are =
    let len : length (as_ ++ x ∷ []) ≡ length as_ + 1 = length-append as_ (x ∷ []) in
    let P : ℕ → Type 0 = λ n. AreAgents n xs in
    takes_then (closing w b es m (parts counts ss os as_)) (closing w b es m (parts counts ss os (as_ ++ x ∷ []))) (closing w b es m (parts counts ss os (as_ ++ x ∷ xs))) (frame.Agent x) (map frame.Agent xs)
    (agent_taken w b es m counts ss os as_ x all (omega (arith, count)) are.0)
    (agents_read w b es m counts ss os (as_ ++ x ∷ []) xs all (omega (arith, len, count)) (subst P (sym len) are.1)
    ∙ ap (λ l. Some (closing w b es m (parts counts ss os l))) (append_assoc as_ (x ∷ []) xs))
