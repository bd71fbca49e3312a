use Rattle.kernel_core.proofs.Times.{time-grows, time-within, time-over, time-on, time-again, time-number, time-at, time-short, time-behind, until-stays, until-short}
use Rattle.kernel_core.proofs.laws.runs_to_times.Goals as goal

pub returns : goal.returns
returns c = record {
  grows = time-grows;
  within = time-within;
  over = time-over;
  later = time-on;
  again = time-again;
  number = time-number;
  at = time-at;
  short = time-short;
  stays = until-stays;
  ended = until-short;
  behind = time-behind;
}
