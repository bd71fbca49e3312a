use Rattle.study_market.proofs.Digits.{small-number}
use Rattle.study_market.proofs.row.number_of.Goals as goal

pub number_after-requires-clause-small : goal.number_after-requires-clause-small
number_after-requires-clause-small c = small-number c.args.text.now c.requires
