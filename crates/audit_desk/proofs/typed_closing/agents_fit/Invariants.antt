use Rattle.std.proofs.Common.{◌≡◌, All, take}
use Rattle.bundle_frames.specs.declared.closing.ClosingAgent.{ClosingAgent}
use Rattle.audit_desk.specs.Clipped.{clipped_agent}
use Rattle.audit_desk.proofs.typed_closing.agents_fit.Given as goal

abbrev pub invariant-loop-i : goal.invariant-loop-i
invariant-loop-i l = All (λ (x : ClosingAgent). clipped_agent x ≡ x) (take l.i l.agents)
