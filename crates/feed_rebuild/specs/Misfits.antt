-- The first message of a feed that can't be applied.
use Rattle.std.specs.Prelude.{◌≡◌, ℕ, List, ◌∷◌, ◌++◌, Ok, Err}
use Rattle.market_types.specs.declared.feed.Feed.{Feed}
use Rattle.feed_rebuild.specs.Fold.{told_by, told_what, Told}

-- after a start some messages are applied, and the next one can't be: so many it tells as what does not fit
pub record IsMisfitIn (start : Told) (feed : List Feed) (reference : ℕ) : Type 0 where
  pub before : List Feed
  pub message : Feed
  pub after : List Feed
  pub told : Told
  pub parts : feed ≡ before ++ message ∷ after
  pub led : told_by (Ok start) before ≡ Ok told
  pub misfit : told_what told message.locate message.what ≡ Err reference
