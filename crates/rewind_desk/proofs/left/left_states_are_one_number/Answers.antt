use Rattle.rewind_desk.proofs.Lefts.{left-one, possible-one}
use Rattle.rewind_desk.proofs.left.left_states_are_one_number.Goals as goal

pub returns : goal.returns
returns c = record { sure = left-one; possible = possible-one }
