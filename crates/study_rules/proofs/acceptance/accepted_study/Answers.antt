use Rattle.toml.specs.View.{table_view}
use Rattle.study_market.proofs.Held.{are-held}
use Rattle.study_rules.proofs.acceptance.accepted_study.Goals as goal

pub stride-requires : goal.stride-requires
stride-requires c = (are-held (table_view c.args.table.now) c.requires.accepted.tables c.requires.accepted.accepted).limits

pub group_number-requires : goal.group_number-requires
group_number-requires c = (are-held (table_view c.args.table.now) c.requires.accepted.tables c.requires.accepted.accepted).squares
