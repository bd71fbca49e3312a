-- The feed of a run of an exchange.
use Rattle.std.specs.Prelude.{List, [], ◌∷◌, ◌++◌}
use Rattle.market_types.specs.declared.feed.Feed.{Feed}
use Rattle.exchange_agent.specs.State.{State}
use Rattle.exchange_agent.specs.Market.{market}
use Rattle.exchange_agent.specs.Changes.{changed_by}
use Rattle.exchange_agent.specs.Runs.{Act, message, change, state_after}

-- what the feed tells of a message or of a change
abbrev pub feed_by : State → Act → List Feed
feed_by s (message time from b) = (market s time from b).feed
feed_by s (change time stock c) = (changed_by s time stock c).feed

-- all that it tells on the way
abbrev pub feed_over : State → List Act → List Feed
feed_over s [] = []
feed_over s (a ∷ acts) = feed_by s a ++ feed_over (state_after s a) acts
