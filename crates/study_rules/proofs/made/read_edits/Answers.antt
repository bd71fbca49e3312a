use Rattle.std.proofs.Common.{◌∙◌, sym, map}
use Rattle.toml.specs.View.{view}
use Rattle.study_rules.specs.EditRules.{edit_in}
use Rattle.study_rules.proofs.Reading.{from_start}
use Rattle.study_rules.proofs.made.read_edits.Goals as goal

pub returns-in-Ok-Some-clause-broken : goal.returns-in-Ok-Some-clause-broken
returns-in-Ok-Some-clause-broken c = from_start (edit_in c.args.scope.now) (map view c.args.entries.now) ∙ sym c.in-Ok-Some.ensures.place ∙ c.in-Ok-Some.field-0-is

pub returns-in-Ok-None-clause-kept : goal.returns-in-Ok-None-clause-kept
returns-in-Ok-None-clause-kept c = from_start (edit_in c.args.scope.now) (map view c.args.entries.now) ∙ sym c.in-Ok-None.ensures.place ∙ c.in-Ok-None.field-0-is
