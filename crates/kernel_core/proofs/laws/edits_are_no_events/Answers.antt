use Rattle.kernel_core.proofs.EditRuns.{edited-behind, edited-events}
use Rattle.kernel_core.proofs.laws.edits_are_no_events.Goals as goal

pub returns : goal.returns
returns c = record { events = edited-events; behind = edited-behind }
