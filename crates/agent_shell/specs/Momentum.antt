-- What momentum makes of a quote.
use Rattle.std.specs.Prelude.{ℕ, ◌-◌, ◌*◌, nat_lt, pos, if◌then◌else◌, List, [], ◌∷◌, ◌++◌, length, drop, sum}
use Rattle.market_types.specs.declared.message.Quote.{Quote}
use Rattle.market_types.specs.declared.order.Side.{Side}
use Rattle.market_types.specs.declared.order.Side.TheVariants.{Buy, Sell}
use Rattle.agent_shell.specs.declared.wish.Wish.{Wish}
use Rattle.agent_shell.specs.Choice.{Choice, has_both, middle}
use Rattle.agent_shell.specs.Trader.{Trader}

-- the last so many of a list
abbrev pub last_of : ℕ → List ℕ → List ℕ
last_of n xs = drop (length xs - n) xs

-- a middle joins the history, which keeps its last so many
abbrev pub remembered : ℕ → ℕ → List ℕ → List ℕ
remembered long mid past = last_of long (past ++ mid ∷ [])

-- an order that trades at once or not at all
abbrev pub momentum_order : Side → ℕ → ℕ → Wish
momentum_order side size price = record { side = side; shares = size; price = pos price; tif = 0; extra = 0 }

-- It buys at the ask where the mean of the last `short` middles is above that of all `long`, and sells at the bid where it is below.
-- The means are compared as products of whole numbers.
abbrev pub momentum_wishes : Quote → ℕ → ℕ → ℕ → List ℕ → List Wish
momentum_wishes q size short long past =
    if nat_lt (length past) long then []
    else if nat_lt (sum past * short) (sum (last_of short past) * long) then momentum_order Buy size q.ask ∷ []
    else if nat_lt (sum (last_of short past) * long) (sum past * short) then momentum_order Sell size q.bid ∷ []
    else []

-- The middle joins the history. Where a side is absent, the history stays and there is no order.
abbrev pub momentum_choice : Trader → Quote → ℕ → ℕ → ℕ → Choice
momentum_choice t q size short long =
    if has_both q
    then (let past = remembered long (middle q) t.past in record { draws = 0; past = past; wishes = momentum_wishes q size short long past })
    else record { draws = 0; past = t.past; wishes = [] }
