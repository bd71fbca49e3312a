use Rattle.std.proofs.Common.{◌≡◌, All, subst, sym}
use Rattle.toml.specs.View.{view, table_view}
use Rattle.study_rules.specs.Branches.{IsHeaded}
use Rattle.study_rules.proofs.Held.{are-shaped, few-events}
use Rattle.study_rules.proofs.Single.{all-headed}
use Rattle.study_rules.proofs.Reading.{pass-place, pass-said}
use Rattle.study_rules.proofs.made.read_branches.Goals as goal

pub few_branches-entries-requires : goal.few_branches-entries-requires
few_branches-entries-requires c = (are-shaped (table_view c.args.table.now) c.requires.shape).keys

pub push_branches-requires-clause-headed : goal.push_branches-requires-clause-headed
push_branches-requires-clause-headed c =
    let t = table_view c.args.table.now in
    subst (All IsHeaded) (sym c.few_branches-entries.ensures.entries) (all-headed t (are-shaped t c.requires.shape) (few-events t c.requires.limits))
