use Rattle.std.proofs.Common.{not, sym, ap, ◌∙◌, pos}
use Rattle.std.specs.Prelude.{position}
use Rattle.toml.specs.Data.{Data}
use Rattle.toml.specs.View.{view}
use Rattle.study_file.specs.Values.{is_between, number_in, list_in}
use Rattle.study_file.proofs.KeyLists.{position-map, position-found}
use Rattle.study_market.proofs.cells.column_of.Goals as goal

pub returns-clause-column : goal.returns-clause-column
returns-clause-column c =
    c.column_outside.ensures
    ∙ sym (position-map view (λ (d : Data). not (is_between (pos 0) (pos c.args.high) (number_in d))) c.list_in-numbers.result.now)
    ∙ ap (position (λ (d : Data). not (is_between (pos 0) (pos c.args.high) (number_in d)))) c.list_in-numbers.ensures

pub returns-clause-low : goal.returns-clause-low
returns-clause-low c =
    position-found (λ (d : Data). not (is_between (pos 0) (pos c.args.high) (number_in d))) (list_in (view c.args.row.now)) c.column_outside.result
    (c.column_outside.ensures
    ∙ sym (position-map view (λ (d : Data). not (is_between (pos 0) (pos c.args.high) (number_in d))) c.list_in-numbers.result.now)
    ∙ ap (position (λ (d : Data). not (is_between (pos 0) (pos c.args.high) (number_in d)))) c.list_in-numbers.ensures)
