use Rattle.session_desk.proofs.Told.{first-bad, no-table}
use Rattle.session_desk.proofs.script_laws.the_first_bad_act_is_told.Goals as goal

pub returns : goal.returns
returns c = record { bad = first-bad; no_table = no-table }
