use Rattle.toml.specs.View.{table_view}
use Rattle.study_rules.proofs.Scopes.{small_scope}
use Rattle.study_rules.proofs.scope.study_scope.Goals as goal

pub invariant_of-result : goal.invariant_of-result
invariant_of-result c =
    small_scope (table_view c.args.table.now) c.few_stocks.result.now c.list_at.result.now c.group_number.result c.few_stocks.ensures.few
    c.list_at.ensures c.requires.traders c.group_number.ensures c.requires.square
