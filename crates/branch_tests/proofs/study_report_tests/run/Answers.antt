use Rattle.std.proofs.Common.{ap}
use Rattle.market_types.specs.Room.{Room}
use Rattle.market_types.specs.Told.{EntryTold}
use Rattle.study_report.proofs.Numbered.{numbered_more}
use Rattle.branch_tests.proofs.study_report_tests.run.Goals as goal

pub loop-number-preserved : goal.loop-number-preserved
loop-number-preserved g c =
    numbered_more c.loop-number.trace.list c.push.new.self.list c.push-in-loop-number.new.self.list _ _ c.loop-number.number
    (ap (λ (t : Room EntryTold). t.list) c.in-Ok.ensures.pushed)
    (ap (λ (t : Room EntryTold). t.list) c.in-Ok-push.ensures.pushed)
    c.wakeup-event.ensures
    c.loop-number.invariant.0
    c.loop-number.invariant.1
