-- A feed up to a time of the day is timely.
use Rattle.std.proofs.Common.{◌≡◌, ◌<◌, ◌≤◌, ◌^◌, ℕ, List, All, arith}
use Rattle.std.proofs.lemmas.List.Elements.{All-weaker}
use Rattle.market_types.specs.Limits.{last_time}
use Rattle.market_types.specs.Timely.{AreTimely}
use Rattle.market_types.specs.declared.feed.Feed.{Feed}

-- none is later than a time
pub timely-to : (time : ℕ) (fs : List Feed) → time ≤ last_time → All (λ (f : Feed). f.time ≤ time) fs → AreTimely fs
timely-to time fs early all = All-weaker (λ (f : Feed). f.time ≤ time) (λ (f : Feed). f.time < 2 ^ 48) (λ f h. omega (arith, h, early)) fs all

-- all are of one time
pub timely-at : (time : ℕ) (fs : List Feed) → time ≤ last_time → All (λ (f : Feed). f.time ≡ time) fs → AreTimely fs
timely-at time fs early all = All-weaker (λ (f : Feed). f.time ≡ time) (λ (f : Feed). f.time < 2 ^ 48) (λ f h. omega (arith, h, early)) fs all
