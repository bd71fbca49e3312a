-- Whether the books that the feed of a bundle tells are those of its closings.
use Rattle.std.specs.Prelude.{ℕ, ◌+◌, List, [], ◌∷◌, ◌++◌, filter, map, sum_by, length, Option, None, Some, Result, Ok, Err}
use Rattle.market_types.specs.declared.feed.Feed.{Feed}
use Rattle.bundle_frames.specs.declared.closing.Closing.{Closing}
use Rattle.bundle_frames.specs.declared.closing.ClosingOrder.{ClosingOrder}
use Rattle.bundle_frames.specs.declared.closing.ClosingStock.{ClosingStock}
use Rattle.bundle_reader.specs.Told.{BranchTold, BundleTold}
use Rattle.feed_rebuild.specs.declared.shown.Shown.{Shown}
use Rattle.feed_rebuild.specs.Fold.{Told, fold}
use Rattle.feed_rebuild.specs.Compared.{difference}
use Rattle.feed_rebuild.specs.Feeds.{entries_feed}
use Rattle.audit_desk.specs.declared.failing.Failing.{Failing}

-- a branch's feed, in the order of the file
abbrev pub branch_feed : BranchTold → List Feed
branch_feed b = b.opening ++ (entries_feed b.entries ++ b.ended ∷ [])

-- an order of a closing as the feed could tell it
abbrev pub order_shown : ClosingOrder → Shown
order_shown o = record { stock = o.stock; reference = o.reference; side = o.side; left = o.left; price = o.price }

-- the displayed orders of a closing, in its order
abbrev pub displayed : Closing → List Shown
displayed c = map order_shown (filter (λ (o : ClosingOrder). o.shown) c.orders)

-- the trading states of its stocks
abbrev pub states_of : Closing → List ℕ
states_of c = map (λ (s : ClosingStock). s.state) c.stocks

-- what tells a feed's books from a closing: the first message that can't be applied, or the least odd order
abbrev pub misfit_by : ℕ → Closing → Result Told ℕ → Option ℕ
misfit_by stocks c (Err reference) = Some reference
misfit_by stocks c (Ok t) = difference stocks t.orders t.states (displayed c) (states_of c)

abbrev pub misfit_of : ℕ → BranchTold → Option ℕ
misfit_of stocks b = misfit_by stocks b.closing (fold stocks (branch_feed b))

-- behind a branch: it fails, or the next ones may
abbrev pub failing_or : ℕ → Option ℕ → Option Failing → Option Failing
failing_or branch (Some reference) later = Some (record { branch = branch; reference = reference })
failing_or branch None later = later

-- the first of these branches that fails, of which the first has this number
abbrev pub first_failing : ℕ → ℕ → List BranchTold → Option Failing
first_failing stocks branch [] = None
first_failing stocks branch (b ∷ bs) = failing_or branch (misfit_of stocks b) (first_failing stocks (branch + 1) bs)

-- the first branch of a bundle that fails, if one does
unfoldable pub audit_of : BundleTold → Option Failing
audit_of b = first_failing b.stocks 0 b.branches

-- how many displayed orders the closings of a bundle tell
abbrev pub displayed_over : List BranchTold → ℕ
displayed_over bs = sum_by (λ (b : BranchTold). length (displayed b.closing)) bs
