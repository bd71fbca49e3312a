use Rattle.std.proofs.Common.{◌≡◌, List, IfOk, subst}
use Rattle.std.specs.List.{flat_map}
use Rattle.market_types.specs.Told.{EventTold}
use Rattle.study_report.specs.Difference.{events_in, first_apart}
use Rattle.study_report.specs.PackedRuns.{left_in}
use Rattle.study_report.proofs.packed_difference.difference_of_packed.Goals as goal

pub returns : goal.returns
returns c =
    subst (λ (xs : List EventTold). IfOk c.first_apart-apart.result (λ d. d ≡ first_apart xs (events_in (flat_map (λ t. t.now.list) c.args.b.now)))) c.new-own.ensures
    (subst (λ (ys : List EventTold). IfOk c.first_apart-apart.result (λ d. d ≡ first_apart (left_in c.new-own.result) ys)) c.new-other.ensures c.first_apart-apart.ensures)
