use Rattle.std.proofs.Common.{◌∙◌}
use Rattle.audit_desk.proofs.Gathering.{one_entry_more}
use Rattle.audit_desk.proofs.gathered.append_entries.Goals as goal

pub loop-entry-preserved : goal.loop-entry-preserved
loop-entry-preserved c =
    one_entry_more c.args.entries.now c.loop-entry.entry-index _ _ _ c.loop-entry-test.true c.entry-item.is c.in_ok-append_entry.ensures
    ∙ c.loop-entry.invariant
