use Rattle.std.proofs.Common.{string_bytes}
use Rattle.abides_run.proofs.Answered.{noted_answered}
use Rattle.abides_run.proofs.Honesty.{answered_honest}
use Rattle.abides_run.proofs.Speaking.{noted_stays}
use Rattle.abides_run.proofs.top.run.Goals as goal

pub returns-clause-answered : goal.returns-clause-answered
returns-clause-answered g c = noted_answered _ _ _ _ _ _ _ c.write_note-status.ensures.kept (rw c.deref_mut.ensures.value at c.answer-ending.ensures.answered)

pub returns-clause-honest : goal.returns-clause-honest
returns-clause-honest g c =
    answered_honest c.honest_bundles_pass.ensures.study _ _ _ _ _ c.write_note-status.result
    (noted_answered _ _ _ _ _ _ _ c.write_note-status.ensures.kept (rw c.deref_mut.ensures.value at c.answer-ending.ensures.answered))

pub returns-clause-noted : goal.returns-clause-noted
returns-clause-noted g c = (
  string_bytes c.answer-ending.result.name,
  noted_stays _ _ _ _ _ c.write_note-status.ensures.kept c.answer-ending.ensures.named,
  rw c.as_str.ensures.value at c.write_note-status.ensures.noted,
)
