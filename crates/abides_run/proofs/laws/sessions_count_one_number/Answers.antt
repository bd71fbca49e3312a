use Rattle.abides_run.proofs.OneNumber.{counts-meet, counts-one}
use Rattle.abides_run.proofs.laws.sessions_count_one_number.Goals as goal

pub returns : goal.returns
returns c = record {
  meet = counts-meet c.left_states_are_one_number.ensures.possible c.nearer_states_leave_less.ensures;
  one = counts-one c.left_states_are_one_number.ensures.sure c.left_states_are_one_number.ensures.possible c.nearer_states_leave_less.ensures;
}
