-- Feed messages that are in their ranges, and the shares that they tell as executed.
use Rattle.std.proofs.Common.{◌≡◌, ℕ, ◌+◌, ◌-◌, ◌<◌, ◌≤◌, Bool, true, false, List, [], ◌∷◌, ◌++◌, length, All, arith, refl, ap, ◌∙◌, sum_by}
use Rattle.std.specs.Prelude.{◌==◌, if◌then◌else◌}
use Rattle.std.proofs.lemmas.List.Elements.{All-append, All-cons, All-head, All-nil, All-tail, All-weaker}
use Rattle.std.proofs.lemmas.List.Sums.{sum_by-append, sum_by-cons}
use Rattle.market_types.specs.Limits.{highest_price}
use Rattle.market_types.specs.declared.feed.Feed.{Feed}
use Rattle.market_types.specs.declared.feed.What.{What}
use Rattle.market_types.specs.declared.feed.What.TheVariants as what
use Rattle.market_types.specs.declared.order.Enter.{Enter}
use Rattle.market_types.specs.declared.order.Side.TheVariants.{Buy}
use Rattle.market_types.specs.declared.order.Symbol.{Symbol}
use Rattle.price_time_book.specs.declared.resting.Fill.{Fill}
use Rattle.price_time_book.specs.declared.resting.Resting.{Resting}
use Rattle.exchange_agent.specs.declared.settle.Taking.{Taking}
use Rattle.exchange_agent.specs.Cancel.{lowered_feed}
use Rattle.exchange_agent.specs.Enter.{added_feed}
use Rattle.exchange_agent.specs.Settle.{Way, all_settled, fed, settled}
use Rattle.market_laws.specs.Executed.{executed_by, executed_in, executed_shares}
use Rattle.market_laws.specs.Small.{IsSmallFeed, IsSmallWhat, IsTradingState, IsUpTo, most_shares}
use Rattle.market_laws.proofs.SmallFits.{fit-from, is_fit, up-more}

what-more : (a b m n : ℕ) (w : What) → a ≤ b → m ≤ n → IsSmallWhat a m w → IsSmallWhat b n w
what-more a b m n (what.System code) le less h = h
what-more a b m n (what.Directory _ _ _ _ _ _ _ _ _ _ _ _ _ _) le less h = h
what-more a b m n (what.Trading stock state reserved reason) le less h = h
what-more a b m n (what.Add reference side shares stock price) le less h = (up-more a b reference le h.0, h.1, h.2)
what-more a b m n (what.Executed reference shares number) le less h = (up-more a b reference le h.0, h.1, up-more m n number less h.2)
what-more a b m n (what.Cancel reference shares) le less h = (up-more a b reference le h.0, h.1)
what-more a b m n (what.Delete reference) le less h = up-more a b reference le h
what-more a b m n (what.Trade reference side shares stock price number) le less h = (h.0, h.1, h.2, up-more m n number less h.3)
what-more a b m n (what.Cross _ _ _ _ _) le less h = h

-- what is small stays so once more orders were accepted and there were more matches
pub feed-more : (stocks a b m n : ℕ) (feed : List Feed) → a ≤ b → m ≤ n → All (IsSmallFeed stocks a m) feed → All (IsSmallFeed stocks b n) feed
feed-more stocks a b m n feed le less h = All-weaker (IsSmallFeed stocks a m) (IsSmallFeed stocks b n) (λ x k. record { locate = k.locate; tracking = k.tracking; what = what-more a b m n x.what le less k.what }) feed h

pub no-feed : (stocks accepted matches : ℕ) → All (IsSmallFeed stocks accepted matches) []
no-feed stocks accepted matches = All-nil (IsSmallFeed stocks accepted matches)

one-feed : (stocks accepted matches : ℕ) (m : Feed) → IsSmallFeed stocks accepted matches m → All (IsSmallFeed stocks accepted matches) (m ∷ [])
one-feed stocks accepted matches m h = All-cons (IsSmallFeed stocks accepted matches) m [] h (no-feed stocks accepted matches)

-- ---- the shares that are told

pub executed-append : (j : ℕ) (xs ys : List Feed) → executed_in j (xs ++ ys) ≡ executed_in j xs + executed_in j ys
executed-append j xs ys = sum_by-append (executed_by j) xs ys

one-executed : (j : ℕ) (m : Feed) → executed_in j (m ∷ []) ≡ executed_by j m
one-executed j m = omega arith

either-zero : (b : Bool) → ◌≡◌ {A = ℕ} (if b then 0 else 0) 0
either-zero true = refl
either-zero false = refl

-- a message of another kind tells none
none-executed : (j : ℕ) (m : Feed) → executed_shares m.what ≡ 0 → executed_in j (m ∷ []) ≡ 0
none-executed j m e =
    one-executed j m ∙ ap (λ (n : ℕ). if m.locate == j + 1 then n else 0) e ∙ either-zero (m.locate == j + 1)

-- ---- matches

-- A fill of an order in its ranges, of some shares.
pub record IsFitFill (traders accepted : ℕ) (f : Fill) : Type 0 where
  pub fit : is_fit traders accepted f.resting ≡ true
  pub shares : IsUpTo most_shares f.shares

abbrev told-by : Bool → Symbol → ℕ → Fill → What
told-by b symbol number f = if b then what.Executed f.resting.reference f.shares number else what.Trade 0 Buy f.shares symbol f.resting.price number

told-small : (b : Bool) (traders accepted matches : ℕ) (symbol : Symbol) (number : ℕ) (f : Fill) → IsUpTo matches number → IsFitFill traders accepted f → IsSmallWhat accepted matches (told-by b symbol number f)
told-small true traders accepted matches symbol number f numbered h = let fit = fit-from traders accepted f.resting h.fit in (fit.reference, h.shares, numbered)
told-small false traders accepted matches symbol number f numbered h = let fit = fit-from traders accepted f.resting h.fit in (refl, h.shares, fit.price, numbered)

told-executed : (b : Bool) (symbol : Symbol) (number : ℕ) (f : Fill) → executed_shares (told-by b symbol number f) ≡ f.shares
told-executed true symbol number f = refl
told-executed false symbol number f = refl

fed-small : (traders stocks accepted matches locate time : ℕ) (symbol : Symbol) (number : ℕ) (f : Fill) → IsUpTo stocks locate → IsUpTo matches number → IsFitFill traders accepted f → IsSmallFeed stocks accepted matches (fed locate time symbol number f)
fed-small traders stocks accepted matches locate time symbol number f here numbered h = record { locate = here; tracking = refl; what = told-small f.resting.shown traders accepted matches symbol number f numbered h }

-- each match counts
pub settled-matches : (t : Taking) (fills : List Fill) (w : Way) → (all_settled t fills w).matches ≡ w.matches + length fills
settled-matches t [] w = omega arith
settled-matches t (f ∷ fs) w = let rest : (all_settled t fs (settled t f w)).matches ≡ w.matches + 1 + length fs = settled-matches t fs (settled t f w) in omega (arith, rest)

-- and the trading state stays
pub settled-state : (t : Taking) (fills : List Fill) (w : Way) → (all_settled t fills w).stock.trading ≡ w.stock.trading
settled-state t [] w = refl
settled-state t (f ∷ fs) w = settled-state t fs (settled t f w)

-- the last price is that of the last order that rested
pub settled-last : (traders accepted : ℕ) (t : Taking) (fills : List Fill) (w : Way) → All (IsFitFill traders accepted) fills → w.stock.tally.last ≤ highest_price → (all_settled t fills w).stock.tally.last ≤ highest_price
settled-last traders accepted t [] w each h = h
settled-last traders accepted t (f ∷ fs) w each h =
    let first = All-head (IsFitFill traders accepted) f fs each in
    settled-last traders accepted t fs (settled t f w) (All-tail (IsFitFill traders accepted) f fs each) (fit-from traders accepted f.resting first.fit).price.1

-- the shares of all matches count
pub settled-shares : (t : Taking) (fills : List Fill) (w : Way) → (all_settled t fills w).stock.tally.matched ≡ w.stock.tally.matched + sum_by (λ (f : Fill). f.shares) fills
settled-shares t [] w = omega arith
settled-shares t (f ∷ fs) w =
    let shares : Fill → ℕ = λ (f : Fill). f.shares in
    let rest : (all_settled t fs (settled t f w)).stock.tally.matched ≡ w.stock.tally.matched + f.shares + sum_by shares fs = settled-shares t fs (settled t f w) in
    let all : sum_by shares (f ∷ fs) ≡ f.shares + sum_by shares fs = sum_by-cons shares f fs in
    omega (arith, rest, all)

-- the feed of matches
pub settled-small : (traders stocks accepted matches : ℕ) (t : Taking) (fills : List Fill) (w : Way) → IsUpTo stocks t.locate → w.matches + length fills ≤ matches → All (IsFitFill traders accepted) fills → All (IsSmallFeed stocks accepted matches) w.feed → All (IsSmallFeed stocks accepted matches) (all_settled t fills w).feed
settled-small traders stocks accepted matches t [] w here few each h = h
settled-small traders stocks accepted matches t (f ∷ fs) w here few each h =
    let m = fed t.locate t.time w.stock.symbol (w.matches + 1) f in
    let numbered : IsUpTo matches (w.matches + 1) = (omega arith, omega (arith, few)) in
    let fewer : w.matches + 1 + length fs ≤ matches = omega (arith, few) in
    let first = All-head (IsFitFill traders accepted) f fs each in
    let one : IsSmallFeed stocks accepted matches m = fed-small traders stocks accepted matches t.locate t.time w.stock.symbol (w.matches + 1) f here numbered first in
    settled-small traders stocks accepted matches t fs (settled t f w) here fewer (All-tail (IsFitFill traders accepted) f fs each)
    (All-append (IsSmallFeed stocks accepted matches) w.feed (m ∷ []) h (one-feed stocks accepted matches m one))

if-true : (b : Bool) (n : ℕ) → b ≡ true → ◌≡◌ {A = ℕ} (if b then n else 0) n
if-true true n e = refl
if-true false n e = absurd cc

if-false : (b : Bool) (n : ℕ) → b ≡ false → ◌≡◌ {A = ℕ} (if b then n else 0) 0
if-false true n e = absurd cc
if-false false n e = refl

-- it tells all their shares in the incoming order's stock
pub here-settled : (j : ℕ) (t : Taking) (fills : List Fill) (w : Way) → (t.locate == j + 1) ≡ true → executed_in j (all_settled t fills w).feed + w.stock.tally.matched ≡ executed_in j w.feed + (all_settled t fills w).stock.tally.matched
here-settled j t [] w e = refl
here-settled j t (f ∷ fs) w e =
    let m = fed t.locate t.time w.stock.symbol (w.matches + 1) f in
    let v = all_settled t fs (settled t f w) in
    let rest : executed_in j v.feed + (w.stock.tally.matched + f.shares) ≡ executed_in j (w.feed ++ m ∷ []) + v.stock.tally.matched = here-settled j t fs (settled t f w) e in
    let both : executed_in j (w.feed ++ m ∷ []) ≡ executed_in j w.feed + executed_in j (m ∷ []) = executed-append j w.feed (m ∷ []) in
    let one : executed_in j (m ∷ []) ≡ f.shares =
    one-executed j m ∙ ap (λ (n : ℕ). if t.locate == j + 1 then n else 0) (told-executed f.resting.shown w.stock.symbol (w.matches + 1) f) ∙ if-true (t.locate == j + 1) f.shares e in
    let all : executed_in j v.feed + w.stock.tally.matched ≡ executed_in j w.feed + v.stock.tally.matched = omega (arith, rest, both, one) in
    all

-- and none in any other
pub there-settled : (j : ℕ) (t : Taking) (fills : List Fill) (w : Way) → (t.locate == j + 1) ≡ false → executed_in j (all_settled t fills w).feed ≡ executed_in j w.feed
there-settled j t [] w e = refl
there-settled j t (f ∷ fs) w e =
    let m = fed t.locate t.time w.stock.symbol (w.matches + 1) f in
    let rest : executed_in j (all_settled t fs (settled t f w)).feed ≡ executed_in j (w.feed ++ m ∷ []) = there-settled j t fs (settled t f w) e in
    let both : executed_in j (w.feed ++ m ∷ []) ≡ executed_in j w.feed + executed_in j (m ∷ []) = executed-append j w.feed (m ∷ []) in
    let none : executed_in j (m ∷ []) ≡ 0 = one-executed j m ∙ if-false (t.locate == j + 1) (executed_shares m.what) e in
    omega (arith, rest, both, none)

-- ---- an order that comes to rest, one that is lowered, a trading action

-- What is told beside matches: small messages that tell no matches.
pub record IsQuiet (stocks accepted matches : ℕ) (feed : List Feed) : Type 0 where
  pub small : All (IsSmallFeed stocks accepted matches) feed
  pub none : (j : ℕ) → executed_in j feed ≡ 0

pub quiet-nil : (stocks accepted matches : ℕ) → IsQuiet stocks accepted matches []
quiet-nil stocks accepted matches = record { small = no-feed stocks accepted matches; none = λ j. refl }

quiet-one : (stocks accepted matches : ℕ) (m : Feed) → IsSmallFeed stocks accepted matches m → executed_shares m.what ≡ 0 → IsQuiet stocks accepted matches (m ∷ [])
quiet-one stocks accepted matches m h e = record { small = one-feed stocks accepted matches m h; none = λ j. none-executed j m e }

quiet-if : (b : Bool) (stocks accepted matches : ℕ) (m : Feed) → IsSmallFeed stocks accepted matches m → executed_shares m.what ≡ 0 → IsQuiet stocks accepted matches (if b then m ∷ [] else [])
quiet-if true stocks accepted matches m h e = quiet-one stocks accepted matches m h e
quiet-if false stocks accepted matches m h e = quiet-nil stocks accepted matches

pub added-quiet : (stocks accepted matches : ℕ) (t : Taking) (e : Enter) (reference left : ℕ) → IsUpTo stocks t.locate → IsUpTo accepted reference → IsUpTo most_shares left → IsUpTo highest_price e.price → IsQuiet stocks accepted matches (added_feed t e reference left)
added-quiet stocks accepted matches t e reference left here given some price =
    quiet-if (e.display == 89) stocks accepted matches (record { locate = t.locate; tracking = 0; time = t.time; what = what.Add reference e.side left e.stock e.price })
    (record { locate = here; tracking = refl; what = (given, some, price) }) refl

abbrev lowering-by : Bool → Resting → ℕ → What
lowering-by b o left = if b then what.Delete o.reference else what.Cancel o.reference (o.left - left)

lowering-small : (b : Bool) (accepted matches : ℕ) (o : Resting) (left : ℕ) → IsUpTo accepted o.reference → left < o.left → o.left ≤ most_shares → IsSmallWhat accepted matches (lowering-by b o left)
lowering-small true accepted matches o left given fewer few = given
lowering-small false accepted matches o left given fewer few = let shares : IsUpTo most_shares (o.left - left) = (omega (arith, fewer), omega (arith, few)) in (given, shares)

lowering-executed : (b : Bool) (o : Resting) (left : ℕ) → executed_shares (lowering-by b o left) ≡ 0
lowering-executed true o left = refl
lowering-executed false o left = refl

pub lowered-quiet : (stocks accepted matches locate time : ℕ) (o : Resting) (left : ℕ) → IsUpTo stocks locate → IsUpTo accepted o.reference → left < o.left → o.left ≤ most_shares → IsQuiet stocks accepted matches (lowered_feed locate time o left)
lowered-quiet stocks accepted matches locate time o left here given fewer few =
    quiet-if o.shown stocks accepted matches (record { locate = locate; tracking = 0; time = time; what = lowering-by (left == 0) o left })
    (record { locate = here; tracking = refl; what = lowering-small (left == 0) accepted matches o left given fewer few }) (lowering-executed (left == 0) o left)

pub trading-quiet : (stocks accepted matches locate time letter : ℕ) (symbol : Symbol) → IsUpTo stocks locate → IsTradingState letter → IsQuiet stocks accepted matches (record { locate = locate; tracking = 0; time = time; what = what.Trading symbol letter 32 (32 ∷ 32 ∷ 32 ∷ 32 ∷ []) } ∷ [])
trading-quiet stocks accepted matches locate time letter symbol here is =
    quiet-one stocks accepted matches (record { locate = locate; tracking = 0; time = time; what = what.Trading symbol letter 32 (32 ∷ 32 ∷ 32 ∷ 32 ∷ []) })
    (record { locate = here; tracking = refl; what = (is, refl, refl) }) refl
