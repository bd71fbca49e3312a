-- A bundle of one branch in which numbers may be too large for their fields.
use Rattle.std.specs.Prelude.{ℕ, ℤ, false, [], ◌∷◌, codes}
use Rattle.market_types.specs.declared.feed.Feed.{Feed}
use Rattle.market_types.specs.declared.feed.What.TheVariants.{Add, System}
use Rattle.market_types.specs.declared.message.Body.TheVariants.{Wake}
use Rattle.market_types.specs.declared.order.Side.TheVariants.{Buy}
use Rattle.market_types.specs.Told.{EventTold, event}
use Rattle.bundle_frames.specs.declared.closing.Closing.{Closing}
use Rattle.bundle_reader.specs.Told.{BundleTold}

-- an order to buy a hundred shares at a price comes
abbrev pub comes_at : ℕ → Feed
comes_at price = record { locate = 1; tracking = 0; time = 1000; what = Add 5 Buy 100 (record { 0 = codes "ABM     " }) price }

-- the event of a wakeup with this message behind it and this fee
abbrev pub at_a_fee : ℤ → Feed → EventTold
at_a_fee fee m = record {
  number = 1;
  time = 1000;
  seq = 0;
  from = 1;
  to = 1;
  put_back = false;
  until = 1000;
  fee = fee;
  body = Wake;
  before = [];
  after = m ∷ [];
}

-- a closing without stocks, orders and agents, after so many dropped messages
abbrev pub closed_with : ℕ → Closing
closed_with dropped = record {
  counts = record {
    end = 81;
    events = 1;
    time = 1000;
    next_seq = 1;
    waiting = 0;
    dropped = dropped;
    enters = 0;
    cancels = 0;
    orders = 0;
    matches = 0;
  };
  stocks = [];
  orders = [];
  agents = [];
}

-- one branch with this price, fee and count of dropped messages
abbrev pub one_branch : ℕ → ℤ → ℕ → BundleTold
one_branch price fee dropped = record {
  agents = 2;
  stocks = 1;
  branches =
      record {
        name = codes "root";
        parent = 65535;
        stop = 0;
        opening = [];
        entries = event (at_a_fee fee (comes_at price)) ∷ [];
        ended = record { locate = 0; tracking = 0; time = 1000; what = System 67 };
        closing = closed_with dropped;
      }
      ∷ [];
}
