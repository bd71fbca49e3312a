use Rattle.std.proofs.Common.{sym, ap, ◌∙◌}
use Rattle.std.specs.Prelude.{filter}
use Rattle.toml.specs.View.{table_view}
use Rattle.study_file.specs.declared.keys.Key.{Key}
use Rattle.study_file.specs.Keys.{belongs, has_no_other}
use Rattle.study_file.specs.KeyRules.{rule_of}
use Rattle.study_file.proofs.KeyLists.{keys-for, no-other}
use Rattle.study_file.proofs.keys.has_known.Goals as goal

pub returns : goal.returns
returns c =
    c.has_no_other.ensures
    ∙ no-other (filter (λ (k : Key). belongs c.args.word.now (rule_of k)) c.args.keys.now) c.args.table.now.entries
    ∙ sym (ap (λ ks. has_no_other ks (table_view c.args.table.now)) (keys-for c.args.word.now c.args.keys.now))
