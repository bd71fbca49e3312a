use Rattle.std.proofs.Common.{rules, arith}
use Rattle.std.proofs.lemmas.Grind.{common_steps}
use Rattle.packed_entries.specs.Told.{rest_told}
use Rattle.packed_entries.proofs.Behind.{event_leaves}
use Rattle.packed_entries.proofs.rest.Rest.take_event.Goals as goal

pub returns-clause-left : goal.returns-clause-left
returns-clause-left c =
    let body = c.take_body.ensures in
    event_leaves c.args.mark.now (rest_told c.args.self.now) _ c.extra_in-more.result c.requires.kind c.extra_in-more.ensures
    body.enters body.cancels body.accepted body.shorts body.quotes
    (first_of (search (rules, body.extras, c.extras_in.ensures), grind (arith, common_steps, body.extras, c.extras_in.ensures)))
    body.edits
    (first_of (search rules, grind (arith, common_steps)))
