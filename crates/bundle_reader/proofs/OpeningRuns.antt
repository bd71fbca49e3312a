-- The opening of a branch is read.
use Rattle.std.proofs.Common.{◌≡◌, ◌∙◌, ℕ, ◌+◌, ◌*◌, ◌==◌, Bool, true, false, ◌&&◌, List, [], ◌∷◌, ◌++◌, length, Some, None, if◌then◌else◌, refl, ap, append_assoc, arith}
use Rattle.std.proofs.lemmas.List.{length-append}
use Rattle.market_types.specs.declared.feed.Feed.{Feed}
use Rattle.bundle_reader.specs.declared.frame.Frame.TheVariants as frame
use Rattle.bundle_reader.specs.Told.{BegunTold, WholeTold, opening, entries, apart}
use Rattle.bundle_reader.specs.Order.{opens, opened, taken}
use Rattle.bundle_reader.specs.Bundle.{stand, feed_list}
use Rattle.bundle_reader.proofs.Runs.{takes, takes_then}

-- both of two tests
pub and_left : (a b : Bool) → (a && b) ≡ true → a ≡ true
and_left true b h = refl
and_left false b h = h

pub and_right : (a b : Bool) → (a && b) ≡ true → b ≡ true
and_right true b h = h
and_right false b h = absurd cc

same_true : (m n : ℕ) → m ≡ n → (m == n) ≡ true
same_true m n e = grind arith

same_false : (m n k : ℕ) → m + (k + 1) ≡ n → (m == n) ≡ false
same_false m n k e = grind arith

-- a branch with these messages more
abbrev pub with_feed : BegunTold → List Feed → BegunTold
with_feed b feed = record { name = b.name; parent = b.parent; stop = b.stop; opening = b.opening ++ feed }

take_first_of : (w : WholeTold) (b : BegunTold) (m : Feed) → opens w.header.stocks (length b.opening) m.what ≡ true
    → taken (opening w b) (frame.Message m) ≡ Some (opened w (with_feed b (m ∷ [])))
unfolding taken
take_first_of w b m e = ap (λ t. if t then Some (opened w (with_feed b (m ∷ []))) else None) e

opened_at : (w : WholeTold) (b : BegunTold) (t : Bool) → (length b.opening == 1 + 2 * w.header.stocks) ≡ t
    → opened w b ≡ (if t then entries w b [] (apart []) else opening w b)
opened_at w b t e = ap (λ s. if s then entries w b [] (apart []) else opening w b) e

-- the messages that are left of an opening, of which the first is this one, bring it to the entries
pub opening_read : (w : WholeTold) (b : BegunTold) (m : Feed) (rest : List Feed) → length b.opening + length (m ∷ rest) ≡ 1 + 2 * w.header.stocks
    → stand w.header.stocks (length b.opening) (m ∷ rest) ≡ true
    → takes (opening w b) (feed_list (m ∷ rest)) ≡ Some (entries w (with_feed b (m ∷ rest)) [] (apart []))
opening_read w b m [] count order =
    let next = with_feed b (m ∷ []) in
    let len : length next.opening ≡ 1 + 2 * w.header.stocks = length-append b.opening (m ∷ []) ∙ count in
    let last : opened w next ≡ entries w next [] (apart []) = opened_at w next true (same_true (length next.opening) (1 + 2 * w.header.stocks) len) in
    takes_then (opening w b) (opened w next) (entries w next [] (apart [])) (frame.Message m) []
    (take_first_of w b m (and_left (opens w.header.stocks (length b.opening) m.what) true order))
    (ap Some last)
opening_read w b m (n ∷ more) count order =
    let stocks = w.header.stocks in
    let next = with_feed b (m ∷ []) in
    let len : length next.opening ≡ length b.opening + 1 = length-append b.opening (m ∷ []) in
    let test = same_false (length next.opening) (1 + 2 * stocks) (length more) (omega (arith, len, count)) in
    let not_last : opened w next ≡ opening w next = opened_at w next false test in
    let after : stand stocks (length b.opening + 1) (n ∷ more) ≡ true = and_right (opens stocks (length b.opening) m.what) (stand stocks (length b.opening + 1) (n ∷ more)) order in
    let after_next : stand stocks (length next.opening) (n ∷ more) ≡ true = ap (λ k. stand stocks k (n ∷ more)) len ∙ after in
    let rest = opening_read w next n more (omega (arith, len, count)) after_next in
    let all : with_feed next (n ∷ more) ≡ with_feed b (m ∷ n ∷ more) =
    ap (λ feed. record { name = b.name; parent = b.parent; stop = b.stop; opening = feed }) (append_assoc b.opening (m ∷ []) (n ∷ more)) in
    takes_then (opening w b) (opening w next) (entries w (with_feed b (m ∷ n ∷ more)) [] (apart [])) (frame.Message m) (feed_list (n ∷ more))
    (take_first_of w b m (and_left (opens stocks (length b.opening) m.what) (stand stocks (length b.opening + 1) (n ∷ more)) order) ∙ ap Some not_last)
    (rest ∙ ap (λ k. Some (entries w k [] (apart []))) all)
