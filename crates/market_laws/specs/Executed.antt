-- The matches that a feed tells.
use Rattle.std.specs.Prelude.{ℕ, ◌+◌, ◌==◌, if◌then◌else◌, List, sum_by}
use Rattle.market_types.specs.declared.feed.Feed.{Feed}
use Rattle.market_types.specs.declared.feed.What.{What}
use Rattle.market_types.specs.declared.feed.What.TheVariants as what

-- the shares of a message that tells a match: Order Executed, or Trade where the order that rested is hidden
abbrev pub executed_shares : What → ℕ
executed_shares (what.Executed reference shares number) = shares
executed_shares (what.Trade reference side shares stock price number) = shares
executed_shares _ = 0

-- those of a message that is of the stock of a number: its locate is the number and one
abbrev pub executed_by : ℕ → Feed → ℕ
executed_by k m = if m.locate == k + 1 then executed_shares m.what else 0

-- all shares that a feed tells as matched in the stock of a number
abbrev pub executed_in : ℕ → List Feed → ℕ
executed_in k feed = sum_by (executed_by k) feed
