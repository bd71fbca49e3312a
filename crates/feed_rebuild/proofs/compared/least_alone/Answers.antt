use Rattle.std.proofs.Common.{◌∙◌}
use Rattle.feed_rebuild.proofs.Marking.{first-least}
use Rattle.feed_rebuild.proofs.compared.least_alone.Goals as goal

pub returns-in-Ok : goal.returns-in-Ok
returns-in-Ok c = c.first_unmarked.ensures c.args.live.now (c.as_slice.ensures.value ∙ c.in-Ok.ensures) ∙ first-least c.args.live.now c.args.entries.now c.requires

pub returns-in-Err : goal.returns-in-Err
returns-in-Err c = c.first_alone.ensures ∙ first-least c.args.live.now c.args.entries.now c.requires
