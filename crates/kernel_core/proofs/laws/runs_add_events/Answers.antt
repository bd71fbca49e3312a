use Rattle.kernel_core.proofs.Fresh.{events-until, events-until_time}
use Rattle.kernel_core.proofs.laws.runs_add_events.Goals as goal

pub returns : goal.returns
returns c = record { until = events-until; until_time = events-until_time }
