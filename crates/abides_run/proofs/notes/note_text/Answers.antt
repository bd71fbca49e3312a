use Rattle.std.proofs.Common.{append_assoc}
use Rattle.abides_run.proofs.notes.note_text.Goals as goal

pub returns-in-Refused-clause-text : goal.returns-in-Refused-clause-text
returns-in-Refused-clause-text c = rw c.in-Refused.is (simp append_assoc c.format-in-Refused.ensures.ok)

pub returns-in-BadBundle-clause-text : goal.returns-in-BadBundle-clause-text
returns-in-BadBundle-clause-text c = rw c.in-BadBundle.is (simp append_assoc c.format-in-BadBundle.ensures.ok)

pub returns-in-AuditFailed-clause-text : goal.returns-in-AuditFailed-clause-text
returns-in-AuditFailed-clause-text c = rw c.in-AuditFailed.is (simp append_assoc c.format-in-AuditFailed.ensures.ok)
