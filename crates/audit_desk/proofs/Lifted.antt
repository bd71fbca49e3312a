-- What holds of each run of an exchange holds of the full run of each branch of a course.
use Rattle.std.proofs.Common.{◌≡◌, ◌∙◌, ℕ, ◌<◌, List, length, All, Ok, ap, subst, sym, arith}
use Rattle.std.specs.Prelude.{ℤ, Bool}
use Rattle.std.specs.List.{AllByRecursion}
use Rattle.exchange_agent.specs.declared.told.StockRules.{StockRules}
use Rattle.exchange_agent.specs.Open.{opened, IsOpening as IsMarket}
use Rattle.exchange_agent.specs.Runs.{Act, IsPossible, run}
use Rattle.exchange_agent.specs.State.{State as Exchange}
use Rattle.market_floor.specs.Opening.{cash_of}
use Rattle.kernel_copy.specs.Courses.{CourseTold, IsCourse}
use Rattle.kernel_copy.specs.Full.{full, full_run}
use Rattle.kernel_copy.specs.Reached.{IsReached}
use Rattle.feed_rebuild.specs.Feeds.{entries_feed}
use Rattle.feed_rebuild.specs.Fold.{fold, Told}
use Rattle.market_laws.specs.Feeds.{feed_over}
use Rattle.market_laws.specs.Shown.{IsShownBy}
use Rattle.market_laws.specs.History.{IsMetAs}
use Rattle.market_laws.specs.Market.{exchange_of}
use Rattle.market_laws.proofs.Conserved.{possible-accounts}
use Rattle.market_laws.specs.Small.{IsSmallExchange, IsSmallFeed}
use Rattle.audit_desk.proofs.Agreements.{AreTold}
use Rattle.audit_desk.proofs.Clipping.{AreSmall}

-- some messages and changes are all that the run of each branch met
abbrev pub AreMet : CourseTold → Type 0
AreMet c = (b : ℕ) → b < length c.plan.branches → (acts : List Act) × IsMetAs c.opening (full_run c.opening c.plan b) acts

-- the feed of each run from an opening tells the books
abbrev pub FeedsTell : Type 0
FeedsTell = (rules : List StockRules) (cash : List ℤ) (hidden : Bool) (acts : List Act) → IsMarket rules cash
    → AllByRecursion (IsPossible (length cash) (length rules)) acts
    → (t : Told) × (fold (length rules) (feed_over (opened rules cash hidden) acts) ≡ Ok t) × IsShownBy (run (opened rules cash hidden) acts) t

-- each state of a course
abbrev pub StatesOf : CourseTold → Type 0
StatesOf c = (b e : ℕ) → b < length c.plan.branches → IsReached c.opening 4080 (full c.opening c.plan b e).state

pub are-told : (c : CourseTold) → IsCourse c → AreMet c → FeedsTell → StatesOf c → AreTold c
are-told c is met tell states b within =
    let o = c.opening in
    let acts = (met b within).0 in
    let history = (met b within).1 in
    let told = tell o.stocks (cash_of o) o.hidden acts is.opening.market (possible-accounts o acts history.possible) in
    record {
      stocks = sym (states b o.limit within).fits.stocks;
      told = told.0;
      led = ap (fold (length o.stocks)) history.feed ∙ told.1;
      shown = subst (λ (x : Exchange). IsShownBy x told.0) (sym history.exchange) told.2;
    }

-- ---- small numbers

-- the orders of each branch's full run
abbrev pub OrdersOf : CourseTold → Type 0
OrdersOf c = (b : ℕ) → b < length c.plan.branches
    → IsSmallExchange (length c.opening.traders) (full_run c.opening c.plan b).state.events (exchange_of (full_run c.opening c.plan b))

-- the feed of each branch's full run
abbrev pub FeedsOf : CourseTold → Type 0
FeedsOf c = (b : ℕ) → b < length c.plan.branches
    → All (IsSmallFeed (length c.opening.stocks) (exchange_of (full_run c.opening c.plan b)).counts.orders (exchange_of (full_run c.opening c.plan b)).counts.matches)
    (entries_feed (full_run c.opening c.plan b).entries)

pub are-small : (c : CourseTold) → IsCourse c → OrdersOf c → FeedsOf c → StatesOf c → AreSmall c
are-small c is orders feeds states b within =
    let small = orders b within in
    let reached = states b c.opening.limit within in
    record {
      listed = is.opening.market.few;
      stocks = sym reached.fits.stocks;
      few = omega (arith, small.accepted, reached.fits.limit, is.opening.limit);
      books = small.stocks;
      matches = (exchange_of (full_run c.opening c.plan b)).counts.matches;
      feed = feeds b within;
    }
