use Rattle.std.proofs.Common.{◌≡◌, ◌∙◌, ap, map, false, Option, None, Some, ℕ}
use Rattle.std.specs.Prelude.{slice_index_or}
use Rattle.toml.specs.View.{view}
use Rattle.study_rules.specs.Entries.{is_timed}
use Rattle.study_rules.proofs.Walks.{read-here}
use Rattle.study_rules.proofs.stops.timed_named.Goals as goal

pub returns-in-Some : goal.returns-in-Some
returns-in-Some c =
    let here : c.is_timed.result ≡ slice_index_or (map is_timed (map view c.args.branches.now)) c.in-Some.at false
    = read-here is_timed false c.args.branches.now c.in-Some.at c.index-branches-at.result c.is_timed.result c.in-Some.ensures.within c.index-branches-at.is c.is_timed.ensures in
    here ∙ ap (λ (o : Option ℕ). elim o [ None ↦ false | Some i ↦ slice_index_or (map is_timed (map view c.args.branches.now)) i false ]) c.in-Some.ensures.place
