-- Messages of the worked examples.
use Rattle.std.specs.Prelude.{ℕ, ◌+◌, List, [], ◌∷◌, codes}
use Rattle.market_types.specs.declared.feed.Feed.{Feed}
use Rattle.market_types.specs.declared.feed.What.{What}
use Rattle.market_types.specs.declared.feed.What.TheVariants as what
use Rattle.market_types.specs.declared.message.Body.TheVariants as body
use Rattle.market_types.specs.declared.order.Side.TheVariants.{Buy}
use Rattle.market_rules.specs.declared.changes.Change.TheVariants as change
use Rattle.exchange_agent.specs.Runs.{Act}
use Rattle.exchange_agent.specs.Runs as runs

abbrev pub of_stock : ℕ → What → Feed
of_stock k w = record { locate = k + 1; tracking = 0; time = 3000; what = w }

-- of the first stock 100 shares of a displayed order and 50 of a hidden one match, of the second stock 7
abbrev pub three_matches : List Feed
three_matches =
    of_stock 0 (what.Executed 2 100 1)
    ∷ of_stock 1 (what.Executed 3 7 2)
    ∷ of_stock 0 (what.Trade 0 Buy 50 (record { 0 = codes "ABM     " }) 100000 3)
    ∷ []

-- an order of 100 shares comes, is lowered by 40 and leaves: nothing matches
abbrev pub no_match : List Feed
no_match =
    of_stock 0 (what.Add 4 Buy 100 (record { 0 = codes "ABM     " }) 100000)
    ∷ of_stock 0 (what.Cancel 4 40)
    ∷ of_stock 0 (what.Delete 4)
    ∷ []

-- two messages, and a halt between them
abbrev pub two_messages : List Act
two_messages = runs.message 1 1 body.Wake ∷ runs.change 2 0 change.Halt ∷ runs.message 3 2 body.Wake ∷ []
