use Rattle.std.proofs.Common.{◌∙◌, sym, length, map, arith}
use Rattle.std.specs.Prelude.{not}
use Rattle.toml.specs.Data.{Data, as_table}
use Rattle.toml.specs.View.{view}
use Rattle.study_file.specs.Keys.{has_form, passes}
use Rattle.study_file.proofs.KeyLists.{length-mapped, position-found, weaker}
use Rattle.study_rules.specs.Forms.{edit_form}
use Rattle.study_rules.proofs.Walks.{few-forms, many-forms}
use Rattle.study_rules.proofs.keys.forms_broken.Goals as goal

pub returns-then-edits-le16-clause-place : goal.returns-then-edits-le16-clause-place
returns-then-edits-le16-clause-place c = c.first_failing.ensures ∙ sym (few-forms (map view c.args.edits.now) (omega (arith, length-mapped view c.args.edits.now)))

pub returns-then-edits-le16-clause-low : goal.returns-then-edits-le16-clause-low
returns-then-edits-le16-clause-low c =
    weaker c.first_failing.result (length (map view c.args.edits.now)) 16 (omega (arith, length-mapped view c.args.edits.now))
    (position-found (λ (d : Data). not (passes (has_form edit_form) (as_table d))) (map view c.args.edits.now) c.first_failing.result c.first_failing.ensures)

pub returns-else-edits-le16-clause-place : goal.returns-else-edits-le16-clause-place
returns-else-edits-le16-clause-place c = sym (many-forms (map view c.args.edits.now) (omega (arith, length-mapped view c.args.edits.now)))
