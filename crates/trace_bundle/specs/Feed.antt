-- The feed around the entries of a branch.
use Rattle.std.specs.Prelude.{ℕ, zero, suc, ◌+◌, List, [], ◌∷◌, ◌++◌, length, slice_index_or}
use Rattle.market_types.specs.declared.feed.Feed.{Feed}
use Rattle.market_types.specs.declared.feed.What.TheVariants.{System, Directory, Trading}
use Rattle.market_types.specs.declared.order.Symbol.{Symbol}
use Rattle.market_floor.specs.declared.opening.Opening.{Opening}
use Rattle.market_floor.specs.Reaction.{no_rules}

-- a system event at a time: `O` starts the messages of the feed, `C` ends them
abbrev pub system_event : ℕ → ℕ → Feed
system_event time code = record { locate = 0; tracking = 0; time = time; what = System code }

-- the symbol of the stock of a number
abbrev pub symbol_at : Opening → ℕ → Symbol
symbol_at o k = (slice_index_or o.stocks k no_rules).symbol

-- the directory of the stock of a number, with the fields that every stock has here
abbrev pub directory : ℕ → ℕ → Symbol → Feed
directory time k symbol = record {
  locate = k + 1;
  tracking = 0;
  time = time;
  what = Directory symbol 81 78 100 78 67 (90 ∷ 32 ∷ []) 84 78 78 32 78 0 78;
}

-- the stock of a number trades
abbrev pub trading : ℕ → ℕ → Symbol → Feed
trading time k symbol = record {
  locate = k + 1;
  tracking = 0;
  time = time;
  what = Trading symbol 84 32 (32 ∷ 32 ∷ 32 ∷ 32 ∷ []);
}

-- the directories of the first n stocks
abbrev pub directories : Opening → ℕ → List Feed
directories o zero = []
directories o (suc n) = directories o n ++ directory o.start n (symbol_at o n) ∷ []

-- the first n stocks trade
abbrev pub tradings : Opening → ℕ → List Feed
tradings o zero = []
tradings o (suc n) = tradings o n ++ trading o.start n (symbol_at o n) ∷ []

-- the feed of the opening: the messages start, and each stock is listed and then each trades
abbrev pub opening_feed : Opening → List Feed
opening_feed o = system_event o.start 79 ∷ (directories o (length o.stocks) ++ tradings o (length o.stocks))
