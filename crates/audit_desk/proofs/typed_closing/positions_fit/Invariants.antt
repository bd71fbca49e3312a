use Rattle.std.proofs.Common.{◌≡◌, All, take}
use Rattle.std.specs.Prelude.{ℤ}
use Rattle.audit_desk.specs.Clipped.{clipped_signed}
use Rattle.audit_desk.proofs.typed_closing.positions_fit.Given as goal

abbrev pub invariant-loop-i : goal.invariant-loop-i
invariant-loop-i l = All (λ (z : ℤ). clipped_signed z ≡ z) (take l.i l.positions)
