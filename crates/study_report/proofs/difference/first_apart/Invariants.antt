use Rattle.std.proofs.Common.{◌≡◌, length, map}
use Rattle.market_types.specs.Told.{entry_told}
use Rattle.study_report.specs.Difference.{events_in, first_apart}
use Rattle.study_report.proofs.difference.first_apart.Given as goal

abbrev pub invariant-records : goal.invariant-records
invariant-records l =
    first_apart (events_in (map entry_told l.own)) (events_in (map entry_told l.others)) ≡ first_apart (events_in (map entry_told l.a)) (events_in (map entry_told l.b))

abbrev pub decreases-records : goal.decreases-records
decreases-records l = length (events_in (map entry_told l.own))
