use Rattle.std.proofs.Common.{not, sym, ◌∙◌}
use Rattle.toml.specs.Data.{Data, as_table}
use Rattle.toml.specs.View.{view}
use Rattle.study_file.specs.Keys.{passes}
use Rattle.study_file.proofs.KeyLists.{position-map}
use Rattle.study_file.proofs.entries.first_failing.Goals as goal

pub returns-in-Some : goal.returns-in-Some
returns-in-Some g c =
    c.in-Some.ensures
    ∙ sym (position-map view (λ (d : Data). not (passes (g.R.EntryRule.kept_by c.args.rule.now) (as_table d))) c.args.values.now)

pub returns-in-None : goal.returns-in-None
returns-in-None g c =
    c.in-None.ensures
    ∙ sym (position-map view (λ (d : Data). not (passes (g.R.EntryRule.kept_by c.args.rule.now) (as_table d))) c.args.values.now)
