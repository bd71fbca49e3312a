use Rattle.feed_rebuild.proofs.Folding.{none-differs, same-orders_by, same-states_by}
use Rattle.feed_rebuild.proofs.laws.no_difference_says_equal.Goals as goal

pub returns : goal.returns
returns c = record { orders = same-orders_by; states = same-states_by; none = none-differs }
