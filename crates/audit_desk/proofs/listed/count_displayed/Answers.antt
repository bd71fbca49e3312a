use Rattle.std.proofs.Common.{◌≡◌, ◌∙◌, List, filter, length, sym}
use Rattle.std.proofs.lemmas.List.{length-map}
use Rattle.std.proofs.lemmas.List.Sums.{length-filter}
use Rattle.bundle_frames.specs.declared.closing.ClosingOrder.{ClosingOrder}
use Rattle.audit_desk.specs.Audited.{order_shown}
use Rattle.audit_desk.proofs.listed.count_displayed.Goals as goal

pub returns : goal.returns
returns c =
    let orders = c.args.closing.now.orders in
    let shown : List ClosingOrder = filter (λ (o : ClosingOrder). o.shown) orders in
    let same : c.as_slice.result.now ≡ orders = c.as_slice.ensures in
    let counted : c.count_among.result ≡ length shown = (rw same at c.count_among.ensures) ∙ sym (length-filter (λ (o : ClosingOrder). o.shown) orders) in
    counted ∙ sym (length-map shown order_shown)
