use Rattle.agent_shell.proofs.Reach.{after-step, after-edit, after-later, after-ready, after-modest}
use Rattle.agent_shell.proofs.laws.traders_stay_in_range.Goals as goal

pub returns-clause-steps : goal.returns-clause-steps
returns-clause-steps c = after-step

pub returns-clause-edits : goal.returns-clause-edits
returns-clause-edits c = after-edit

pub returns-clause-later : goal.returns-clause-later
returns-clause-later c = after-later

pub returns-clause-ready : goal.returns-clause-ready
returns-clause-ready c = after-ready

pub returns-clause-modest : goal.returns-clause-modest
returns-clause-modest c = after-modest
