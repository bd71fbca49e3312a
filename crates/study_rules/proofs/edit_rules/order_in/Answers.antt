use Rattle.study_rules.proofs.Orders.{order-read, order-refused}
use Rattle.study_rules.proofs.edit_rules.order_in.Goals as goal

pub returns-in-Ok : goal.returns-in-Ok
returns-in-Ok c = order-read c.args.bytes.now c.in-Ok.message c.in-Ok.ensures.spelled c.in-Ok.ensures.refused

pub returns-in-Err : goal.returns-in-Err
returns-in-Err c = order-refused c.args.bytes.now c.in-Err.field-0 c.in-Err.ensures.refused
