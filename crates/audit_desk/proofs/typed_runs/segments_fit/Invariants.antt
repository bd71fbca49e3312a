use Rattle.std.proofs.Common.{ℕ, ◌<◌}
use Rattle.audit_desk.specs.Typed.{IsTypedSegment}
use Rattle.audit_desk.proofs.typed_runs.segments_fit.Given as goal

abbrev pub invariant-loop-segment : goal.invariant-loop-segment
invariant-loop-segment g l = (s : ℕ) → s < l.segment → IsTypedSegment l.course s
