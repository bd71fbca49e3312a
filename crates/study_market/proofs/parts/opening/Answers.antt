use Rattle.toml.specs.View.{table_view}
use Rattle.study_market.proofs.Held.{AreHeld, are-held}
use Rattle.study_market.proofs.parts.opening.Goals as goal

pub assembled-requires : goal.assembled-requires
assembled-requires c =
    let h : AreHeld (table_view c.args.table.now) c.args.rows.now = are-held (table_view c.args.table.now) c.args.rows.now c.requires.accepted in
    record { limits = h.limits; key = h.key; square = h.squares; exchange = h.exchange }
