use Rattle.event_queue.proofs.Orders.{rising_at}
use Rattle.event_queue.proofs.laws.rising_numbers_are_distinct.Goals as goal

pub returns : goal.returns
returns c = rising_at
