use Rattle.std.proofs.Common.{◌∙◌, List, ap₂}
use Rattle.market_types.specs.Told.{EntryTold}
use Rattle.study_report.specs.Difference.{events_in, first_apart}
use Rattle.study_report.proofs.Apart.{apart-numbered}
use Rattle.study_report.proofs.difference.first_difference.Goals as goal

pub returns : goal.returns
returns c =
    c.first_apart.ensures
    ∙ ap₂ (λ (es fs : List EntryTold). first_apart (events_in es) (events_in fs)) c.as_slice.ensures c.as_slice-2.ensures
    ∙ apart-numbered 1 (events_in c.args.a.now.list) (events_in c.args.b.now.list) c.requires.numbered c.requires.others
