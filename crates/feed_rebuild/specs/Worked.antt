-- Messages and orders of the worked examples.
use Rattle.std.specs.Prelude.{ℕ, []}
use Rattle.market_types.specs.declared.feed.Feed.{Feed}
use Rattle.market_types.specs.declared.feed.What.{What}
use Rattle.market_types.specs.declared.feed.What.TheVariants as what
use Rattle.market_types.specs.declared.order.Side.TheVariants.{Buy}
use Rattle.feed_rebuild.specs.declared.shown.Shown.{Shown}

abbrev pub message : ℕ → What → Feed
message locate w = record { locate = locate; tracking = 0; time = 0; what = w }

-- an order to buy so many shares at ten dollars
abbrev pub add : ℕ → ℕ → ℕ → Feed
add locate reference shares = message locate (what.Add reference Buy shares (record { 0 = [] }) 100000)

abbrev pub executed : ℕ → ℕ → ℕ → Feed
executed locate reference shares = message locate (what.Executed reference shares 1)

abbrev pub cancel : ℕ → ℕ → ℕ → Feed
cancel locate reference shares = message locate (what.Cancel reference shares)

abbrev pub delete : ℕ → ℕ → Feed
delete locate reference = message locate (what.Delete reference)

abbrev pub halt : ℕ → Feed
halt locate = message locate (what.Trading (record { 0 = [] }) 72 32 [])

-- the order that `add` tells
abbrev pub buy : ℕ → ℕ → ℕ → Shown
buy stock reference left = record { stock = stock; reference = reference; side = Buy; left = left; price = 100000 }
