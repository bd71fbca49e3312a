-- Small bundles of one stock.
use Rattle.std.specs.Prelude.{ℕ, Bool, List, [], ◌∷◌, codes, pos}
use Rattle.market_types.specs.declared.feed.Feed.{Feed}
use Rattle.market_types.specs.declared.feed.What.TheVariants as what
use Rattle.market_types.specs.declared.order.Side.TheVariants.{Buy}
use Rattle.bundle_frames.specs.declared.closing.ClosingCounts.{ClosingCounts}
use Rattle.bundle_frames.specs.declared.closing.ClosingOrder.{ClosingOrder}
use Rattle.bundle_frames.specs.declared.closing.ClosingStock.{ClosingStock}
use Rattle.bundle_reader.specs.Told.{BranchTold, BundleTold}

-- an order to buy at ten dollars, displayed or not, of which so many shares are open
abbrev pub order : Bool → ℕ → ℕ → ClosingOrder
order shown reference left = record {
  reference = reference;
  agent = 1;
  token = record { 0 = [] };
  side = Buy;
  intended = 100;
  left = left;
  stock = 0;
  price = 100000;
  tif = 99999;
  shown = shown;
}

abbrev pub stock_in : ℕ → ClosingStock
stock_in state = record { stock = 0; state = state; last = 0; matched = 0; fees = pos 0; offset = pos 0; live = 0 }

abbrev pub no_counts : ClosingCounts
no_counts = record {
  end = 81;
  events = 0;
  time = 0;
  next_seq = 0;
  waiting = 0;
  dropped = 0;
  enters = 0;
  cancels = 0;
  orders = 0;
  matches = 0;
}

-- a branch whose opening has this feed, with no entries, and a closing of these orders and this trading state
abbrev pub branch_of : List Feed → List ClosingOrder → ℕ → BranchTold
branch_of feed orders state = record {
  name = codes "root";
  parent = 65535;
  stop = 0;
  opening = feed;
  entries = [];
  ended = record { locate = 0; tracking = 0; time = 0; what = what.System 67 };
  closing = record { counts = no_counts; stocks = stock_in state ∷ []; orders = orders; agents = [] };
}

abbrev pub bundle_of : List BranchTold → BundleTold
bundle_of branches = record { agents = 2; stocks = 1; branches = branches }
