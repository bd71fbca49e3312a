use Rattle.std.proofs.Common.{not, sym, ap, ◌∙◌}
use Rattle.std.specs.Prelude.{filter, position}
use Rattle.toml.specs.View.{table_view}
use Rattle.study_file.specs.declared.keys.Key.{Key}
use Rattle.study_file.specs.Keys.{KeyRule, belongs, key_holds}
use Rattle.study_file.specs.KeyRules.{rule_of}
use Rattle.study_file.proofs.KeyLists.{keys-for, position-map, position-low}
use Rattle.study_file.proofs.keys.place_unheld.Goals as goal

pub returns-clause-place : goal.returns-clause-place
returns-clause-place c =
    c.first_unheld.ensures
    ∙ sym (ap (position (λ (key : KeyRule). not (key_holds (table_view c.args.table.now) key))) (keys-for c.args.word.now c.args.keys.now)
    ∙ position-map rule_of (λ (key : KeyRule). not (key_holds (table_view c.args.table.now) key)) (filter (λ (k : Key). belongs c.args.word.now (rule_of k)) c.args.keys.now))

pub returns-clause-low : goal.returns-clause-low
returns-clause-low c =
    rw (c.first_unheld.ensures) (position-low (λ (k : Key). not (key_holds (table_view c.args.table.now) (rule_of k))) (λ (k : Key). belongs c.args.word.now (rule_of k)) c.args.keys.now)
