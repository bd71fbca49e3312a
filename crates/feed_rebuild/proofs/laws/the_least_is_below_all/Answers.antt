use Rattle.feed_rebuild.proofs.Folding.{least-below, least-one}
use Rattle.feed_rebuild.proofs.Grouping.{least-none}
use Rattle.feed_rebuild.proofs.laws.the_least_is_below_all.Goals as goal

pub returns : goal.returns
returns c = record { one = least-one; below = least-below; none = least-none }
