use Rattle.session_desk.proofs.TreeActs.{acts-push}
use Rattle.session_desk.proofs.laws.acts_follow_one_another.Goals as goal

pub returns : goal.returns
returns c = acts-push
