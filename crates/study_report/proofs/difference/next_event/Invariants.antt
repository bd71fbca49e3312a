use Rattle.std.proofs.Common.{◌≡◌, map, drop}
use Rattle.market_types.specs.Told.{entry_told}
use Rattle.study_report.specs.Difference.{events_in}
use Rattle.study_report.proofs.difference.next_event.Given as goal

abbrev pub invariant-loop-i : goal.invariant-loop-i
invariant-loop-i l = events_in (map entry_told (drop l.i l.entries)) ≡ events_in (map entry_told l.entries)
