use Rattle.std.proofs.Common.{rules}
use Rattle.audit_desk.proofs.listed.states_among.Goals as goal

pub returns : goal.returns
returns c = search rules
