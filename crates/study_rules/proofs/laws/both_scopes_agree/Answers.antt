use Rattle.study_rules.proofs.OpeningScopes.{scopes-agree}
use Rattle.study_rules.proofs.laws.both_scopes_agree.Goals as goal

pub returns : goal.returns
returns c = scopes-agree
