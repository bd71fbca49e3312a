use Rattle.bundle_reader.proofs.Bodied.{answer_made, answer_read, answer_refused}
use Rattle.bundle_reader.proofs.bodies.answer.Goals as goal

pub returns-in-Ok-clause-body : goal.returns-in-Ok-clause-body
returns-in-Ok-clause-body c = answer_made c.args.bytes.now c.in-Ok.reply c.requires c.in-Ok.ensures.spelled

pub returns-in-Ok-clause-only : goal.returns-in-Ok-clause-only
returns-in-Ok-clause-only c b is =
    answer_read c.args.bytes.now b c.decode_out.result c.in-Ok.reply c.requires c.decode_out.ensures.only is c.in-Ok.is

pub returns-in-Err-clause-only : goal.returns-in-Err-clause-only
returns-in-Err-clause-only c b is =
    absurd (answer_refused c.args.bytes.now b c.decode_out.result c.in-Err.field-0 c.requires c.decode_out.ensures.only is c.in-Err.is)
