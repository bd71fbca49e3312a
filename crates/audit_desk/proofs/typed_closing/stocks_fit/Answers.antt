use Rattle.std.proofs.Common.{◌≡◌}
use Rattle.std.proofs.lemmas.List.Elements.{All-more}
use Rattle.bundle_frames.specs.declared.closing.ClosingStock.{ClosingStock}
use Rattle.audit_desk.specs.Clipped.{clipped_stock}
use Rattle.audit_desk.proofs.Typed.{whole-same}
use Rattle.audit_desk.proofs.typed_closing.stocks_fit.Goals as goal

pub loop-i-preserved : goal.loop-i-preserved
loop-i-preserved c = All-more (λ (x : ClosingStock). clipped_stock x ≡ x) c.args.stocks.now c.loop-i.i _ c.loop-i-test.true c.loop-i.invariant c.stock_fits.ensures

pub returns : goal.returns
returns c = whole-same clipped_stock c.args.stocks.now c.loop-i.i c.loop-i-test.false c.loop-i.invariant
