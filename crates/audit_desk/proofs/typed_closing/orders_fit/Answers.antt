use Rattle.std.proofs.Common.{◌≡◌}
use Rattle.std.proofs.lemmas.List.Elements.{All-more}
use Rattle.bundle_frames.specs.declared.closing.ClosingOrder.{ClosingOrder}
use Rattle.audit_desk.specs.Clipped.{clipped_order}
use Rattle.audit_desk.proofs.Typed.{whole-same}
use Rattle.audit_desk.proofs.typed_closing.orders_fit.Goals as goal

pub loop-i-preserved : goal.loop-i-preserved
loop-i-preserved c = All-more (λ (x : ClosingOrder). clipped_order x ≡ x) c.args.orders.now c.loop-i.i _ c.loop-i-test.true c.loop-i.invariant c.order_fits.ensures

pub returns : goal.returns
returns c = whole-same clipped_order c.args.orders.now c.loop-i.i c.loop-i-test.false c.loop-i.invariant
