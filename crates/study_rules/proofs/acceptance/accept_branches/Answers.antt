use Rattle.toml.specs.View.{table_view}
use Rattle.study_market.proofs.Held.{are-held}
use Rattle.study_rules.proofs.acceptance.accept_branches.Goals as goal

pub branches-requires : goal.branches-requires
branches-requires c =
    let held = are-held (table_view c.args.table.now) c.requires.tables c.requires.accepted in
    record { limits = held.limits; square = held.squares; stocks = held.stock_count; traders = held.counts }
