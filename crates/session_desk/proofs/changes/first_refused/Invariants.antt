use Rattle.std.proofs.Common.{◌≡◌, drop}
use Rattle.session_desk.specs.Session.{first_session}
use Rattle.session_desk.specs.Refused.{act_refused, refused_from}
use Rattle.session_desk.proofs.changes.first_refused.Given as goal

-- what is first refused among the rest is first of all
abbrev pub invariant-loop-i : goal.invariant-loop-i
invariant-loop-i l = record {
  course : l.session.course ≡ l.course.value;
  first : refused_from l.i l.session (drop l.i l.acts) ≡ act_refused (first_session l.course.value) l.acts;
}
