use Rattle.std.proofs.Common.{◌≡◌, All, take}
use Rattle.bundle_frames.specs.declared.closing.ClosingStock.{ClosingStock}
use Rattle.audit_desk.specs.Clipped.{clipped_stock}
use Rattle.audit_desk.proofs.typed_closing.stocks_fit.Given as goal

abbrev pub invariant-loop-i : goal.invariant-loop-i
invariant-loop-i l = All (λ (x : ClosingStock). clipped_stock x ≡ x) (take l.i l.stocks)
