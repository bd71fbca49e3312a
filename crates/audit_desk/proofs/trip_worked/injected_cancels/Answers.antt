use Rattle.std.proofs.Common.{codes, replicate, refl}
use Rattle.wire_fields.specs.Kinds.{is_good}
use Rattle.wire_fields.specs.Values.{is_in_range}
use Rattle.market_laws.specs.Texts.{HasMessageTexts}
use Rattle.audit_desk.specs.TripWorked.{canceling}
use Rattle.audit_desk.proofs.trip_worked.injected_cancels.Goals as goal

letters : HasMessageTexts (canceling (codes "T0001000000001"))
unfolding is_in_range is_good
letters = refl

spaces : HasMessageTexts (canceling (replicate 14 32)) → ⊥
unfolding is_in_range is_good
spaces h = absurd (cc h)

pub returns-clause-letters : goal.returns-clause-letters
returns-clause-letters c = letters

pub returns-clause-spaces : goal.returns-clause-spaces
returns-clause-spaces c = spaces
