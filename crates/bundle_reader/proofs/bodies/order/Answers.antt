use Rattle.bundle_reader.proofs.Bodied.{order_made, order_read, order_refused}
use Rattle.bundle_reader.proofs.bodies.order.Goals as goal

pub returns-in-Ok-clause-body : goal.returns-in-Ok-clause-body
returns-in-Ok-clause-body c = order_made c.args.bytes.now c.in-Ok.order c.requires c.in-Ok.ensures.spelled

pub returns-in-Ok-clause-only : goal.returns-in-Ok-clause-only
returns-in-Ok-clause-only c b is =
    order_read c.args.bytes.now b c.decode_in.result c.in-Ok.order c.requires c.decode_in.ensures.only is c.in-Ok.is

pub returns-in-Err-clause-only : goal.returns-in-Err-clause-only
returns-in-Err-clause-only c b is =
    absurd (order_refused c.args.bytes.now b c.decode_in.result c.in-Err.field-0 c.requires c.decode_in.ensures.only is c.in-Err.is)
