-- The displayed orders and trading states that a feed tells.
use Rattle.std.specs.Prelude.{ℕ, ◌+◌, ◌-◌, ◌==◌, ◌&&◌, not, nat_le, nat_lt, Bool, true, if◌then◌else◌, List, [], ◌∷◌, ◌++◌, length, Option, None, Some, Result, Ok, Err, filter, find, map, replicate, slice_set}
use Rattle.market_types.specs.declared.feed.Feed.{Feed}
use Rattle.market_types.specs.declared.feed.What.{What}
use Rattle.market_types.specs.declared.feed.What.TheVariants as what
use Rattle.feed_rebuild.specs.declared.shown.Shown.{Shown}

-- What a feed has told so far: the displayed orders in the order in which they came, the trading state of each stock, and the
-- greatest reference, once there was one.
pub record Told : Type 0 where
  pub orders : List Shown
  pub states : List ℕ
  pub last : Option ℕ

-- before the first message each of so many stocks trades
abbrev pub fresh : ℕ → Told
fresh stocks = record { orders = []; states = replicate stocks 84; last = None }

-- a locate is a stock's number and one
abbrev pub is_listed : Told → ℕ → Bool
is_listed t locate = nat_le 1 locate && nat_le locate (length t.states)

-- a reference is above all before
abbrev pub is_later : Option ℕ → ℕ → Bool
is_later None reference = true
is_later (Some last) reference = nat_lt last reference

-- an order has this reference and is of the locate's stock
abbrev pub is_this : ℕ → ℕ → Shown → Bool
is_this locate reference o = (o.reference == reference) && (o.stock + 1 == locate)

-- the held order of a reference, if it is of the locate's stock
abbrev pub held : ℕ → ℕ → List Shown → Option Shown
held locate reference os = find (is_this locate reference) os

-- the orders but that one
abbrev pub without : ℕ → ℕ → List Shown → List Shown
without locate reference os = filter (λ o. not (is_this locate reference o)) os

-- it keeps so many open shares in its place, and leaves with none
abbrev pub with_left : ℕ → ℕ → ℕ → List Shown → List Shown
with_left locate reference left os =
    if left == 0 then without locate reference os
    else map (λ o. if is_this locate reference o then record o { left = left } else o) os

-- an order comes; what does not fit is told by its reference
abbrev pub added : Told → ℕ → Shown → Result Told ℕ
added t locate o =
    if is_listed t locate && is_later t.last o.reference
    then Ok (record t { orders = t.orders ++ o ∷ []; last = Some o.reference })
    else Err o.reference

-- an order has so many shares fewer, of those that it has
abbrev pub lowered : Told → ℕ → ℕ → ℕ → Option Shown → Result Told ℕ
lowered t locate reference shares None = Err reference
lowered t locate reference shares (Some o) =
    if nat_le shares o.left then Ok (record t { orders = with_left locate reference (o.left - shares) t.orders }) else Err reference

-- an order leaves
abbrev pub deleted : Told → ℕ → ℕ → Option Shown → Result Told ℕ
deleted t locate reference None = Err reference
deleted t locate reference (Some o) = Ok (record t { orders = without locate reference t.orders })

-- the state of the locate's stock changes; where there is no such stock, 0 is told
abbrev pub acted : Told → ℕ → ℕ → Result Told ℕ
acted t locate state = if is_listed t locate then Ok (record t { states = slice_set t.states (locate - 1) state }) else Err 0

-- what a message with a locate does; all other messages change nothing
abbrev pub told_what : Told → ℕ → What → Result Told ℕ
told_what t locate (what.Add reference side shares stock price) =
    added t locate (record { stock = locate - 1; reference = reference; side = side; left = shares; price = price })
told_what t locate (what.Executed reference shares match_number) = lowered t locate reference shares (held locate reference t.orders)
told_what t locate (what.Cancel reference shares) = lowered t locate reference shares (held locate reference t.orders)
told_what t locate (what.Delete reference) = deleted t locate reference (held locate reference t.orders)
told_what t locate (what.Trading stock state reserved reason) = acted t locate state
told_what t locate _ = Ok t

-- what messages tell one after another, up to the first that can't be applied
abbrev pub told_by : Result Told ℕ → List Feed → Result Told ℕ
told_by r [] = r
told_by (Ok t) (m ∷ ms) = told_by (told_what t m.locate m.what) ms
told_by (Err reference) (m ∷ ms) = Err reference

-- the fold of a feed of so many stocks
unfoldable pub fold : ℕ → List Feed → Result Told ℕ
fold stocks feed = told_by (Ok (fresh stocks)) feed
