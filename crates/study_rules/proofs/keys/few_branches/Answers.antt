use Rattle.std.proofs.Common.{◌≡◌, ◌≤◌, sym, ap, ◌∙◌, arith, length}
use Rattle.toml.specs.View.{table_view, view}
use Rattle.study_file.proofs.KeyLists.{length-mapped}
use Rattle.study_rules.specs.Entries.{branch_entries}
use Rattle.study_rules.proofs.Few.{few-branches}
use Rattle.study_rules.proofs.keys.few_branches.Goals as goal

pub returns-clause-few : goal.returns-clause-few
returns-clause-few c =
    let few : length (branch_entries (table_view c.args.table.now)) ≤ 255 = few-branches (table_view c.args.table.now) c.requires in
    let same : length c.branch_entries.result.now ≡ length (branch_entries (table_view c.args.table.now))
    = sym (length-mapped view c.branch_entries.result.now) ∙ ap length c.branch_entries.ensures in
    omega (arith, few, same)
