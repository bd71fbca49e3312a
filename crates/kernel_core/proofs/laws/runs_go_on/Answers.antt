use Rattle.kernel_core.proofs.Stops.{again, until-again, until-behind, until-grows, until-past, until-until, until-within}
use Rattle.kernel_core.proofs.laws.runs_go_on.Goals as goal

pub returns : goal.returns
returns c = record {
  grows = until-grows;
  within = until-within;
  past = until-past;
  again = again;
  stopped = until-again;
  later = until-until;
  behind = until-behind;
}
