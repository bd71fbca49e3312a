use Rattle.std.proofs.Common.{◌≡◌, All, take}
use Rattle.bundle_frames.specs.declared.closing.ClosingOrder.{ClosingOrder}
use Rattle.audit_desk.specs.Clipped.{clipped_order}
use Rattle.audit_desk.proofs.typed_closing.orders_fit.Given as goal

abbrev pub invariant-loop-i : goal.invariant-loop-i
invariant-loop-i l = All (λ (x : ClosingOrder). clipped_order x ≡ x) (take l.i l.orders)
