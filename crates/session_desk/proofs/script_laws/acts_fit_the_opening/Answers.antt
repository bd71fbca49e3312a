use Rattle.session_desk.proofs.Told.{one-by-one, is-table}
use Rattle.session_desk.proofs.Fits.{all-fit, how-many}
use Rattle.session_desk.proofs.script_laws.acts_fit_the_opening.Goals as goal

pub returns : goal.returns
returns c = record {
  count = λ course bytes acts h. let t = is-table course bytes acts h in how-many course t.0 acts (one-by-one course bytes t.0 acts t.1 h);
  fit = λ course bytes acts h. let t = is-table course bytes acts h in all-fit course t.0 acts (one-by-one course bytes t.0 acts t.1 h);
}
