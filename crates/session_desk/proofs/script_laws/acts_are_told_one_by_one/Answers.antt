use Rattle.session_desk.proofs.Told.{one-by-one}
use Rattle.session_desk.proofs.script_laws.acts_are_told_one_by_one.Goals as goal

pub returns : goal.returns
returns c = one-by-one
