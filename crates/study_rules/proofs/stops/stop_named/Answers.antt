use Rattle.std.proofs.Common.{◌≡◌, ◌∙◌, ap, map, pos, Option, None, Some, ℕ, rules}
use Rattle.std.specs.Prelude.{slice_index_or}
use Rattle.toml.specs.View.{view}
use Rattle.study_rules.specs.Entries.{stop_in}
use Rattle.study_rules.specs.BranchRules.{stop_named}
use Rattle.study_rules.proofs.Walks.{read-here}
use Rattle.study_rules.proofs.stops.stop_named.Goals as goal

pub returns-in-Some : goal.returns-in-Some
returns-in-Some c =
    let here : c.branch_stop.result ≡ slice_index_or (map stop_in (map view c.args.branches.now)) c.in-Some.at (pos 0)
    = read-here stop_in (pos 0) c.args.branches.now c.in-Some.at c.index-branches-at.result c.branch_stop.result c.in-Some.ensures.within c.index-branches-at.is c.branch_stop.ensures in
    let total : c.branch_stop.result ≡ stop_named (map view c.args.branches.now) c.args.name.now
    = here ∙ ap (λ (o : Option ℕ). elim o [ None ↦ pos 0 | Some i ↦ slice_index_or (map stop_in (map view c.args.branches.now)) i (pos 0) ]) c.in-Some.ensures.place in
    search (rules, total)
