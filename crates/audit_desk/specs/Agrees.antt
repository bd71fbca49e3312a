-- A branch whose closing is what its feed tells.
use Rattle.std.specs.Prelude.{◌≡◌, ℕ, Ok}
use Rattle.bundle_reader.specs.Told.{BranchTold}
use Rattle.feed_rebuild.specs.Compared.{by_stock}
use Rattle.feed_rebuild.specs.Fold.{Told, fold}
use Rattle.audit_desk.specs.Audited.{branch_feed, displayed, states_of}

-- Every message of a branch's feed can be applied. Then the orders that the feed tells, stock by stock, are the closing's displayed
-- orders, field by field and in order, and the states that it tells are the closing's.
pub record Agrees (stocks : ℕ) (b : BranchTold) : Type 0 where
  pub told : Told
  pub applied : fold stocks (branch_feed b) ≡ Ok told
  pub orders : by_stock stocks told.orders ≡ displayed b.closing
  pub states : told.states ≡ states_of b.closing
