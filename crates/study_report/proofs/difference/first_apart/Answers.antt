use Rattle.std.proofs.Common.{true, false, ◌∙◌, map, sym}
use Rattle.market_types.specs.Told.{entry_told, event_told}
use Rattle.study_report.specs.Difference.{events_in}
use Rattle.study_report.proofs.Parted.{apart-next}
use Rattle.study_report.proofs.difference.first_apart.Goals as goal

pub returns-else-same_event : goal.returns-else-same_event
returns-else-same_event c =
    let both = c.in-Some-Some in
    sym (apart-next (events_in (map entry_told c.records.own.now)) (events_in (map entry_told c.records.others.now)) (events_in (map entry_told both.rest.now)) (events_in (map entry_told both.later.now))
    (event_told both.event.now) (event_told both.other.now) false both.ensures both.ensures' c.if-same_event.ensures)
    ∙ c.records.invariant

pub records-preserved : goal.records-preserved
records-preserved c =
    let both = c.in-Some-Some in
    sym (apart-next (events_in (map entry_told c.records.own.now)) (events_in (map entry_told c.records.others.now)) (events_in (map entry_told both.rest.now)) (events_in (map entry_told both.later.now))
    (event_told both.event.now) (event_told both.other.now) true both.ensures both.ensures' c.if-same_event.ensures)
    ∙ c.records.invariant
