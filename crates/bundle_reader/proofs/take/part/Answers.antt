use Rattle.std.proofs.Common.{◌≡◌, subst, sym}
use Rattle.bundle_reader.specs.declared.frame.Frame.{Frame}
use Rattle.bundle_reader.specs.Told.{begun_told, whole_told}
use Rattle.bundle_reader.specs.Order.{take_agent, take_closing, take_order, take_stock}
use Rattle.bundle_reader.specs.Reads.{Takes}
use Rattle.bundle_reader.proofs.take.part.Goals as goal

pub returns-in-Stock : goal.returns-in-Stock
returns-in-Stock c =
    subst (λ (f : Frame). Takes (take_closing (whole_told c.args.whole) (begun_told c.args.begun) c.args.entries.list c.args.ended c.args.closing f) c.with_part.result)
    (sym c.in-Stock.is)
    (c.with_part.ensures (take_stock c.args.whole.header.stocks c.args.closing c.in-Stock.stock) c.put_stock-put.ensures)

pub returns-in-Order : goal.returns-in-Order
returns-in-Order c =
    subst (λ (f : Frame). Takes (take_closing (whole_told c.args.whole) (begun_told c.args.begun) c.args.entries.list c.args.ended c.args.closing f) c.with_part-in-Order.result)
    (sym c.in-Order.is)
    (c.with_part-in-Order.ensures (take_order c.args.whole.header.stocks c.args.closing c.in-Order.order) c.put_order-put.ensures)

pub returns-in-Agent : goal.returns-in-Agent
returns-in-Agent c =
    subst (λ (f : Frame). Takes (take_closing (whole_told c.args.whole) (begun_told c.args.begun) c.args.entries.list c.args.ended c.args.closing f) c.with_part-in-Agent.result)
    (sym c.in-Agent.is)
    (c.with_part-in-Agent.ensures (take_agent c.args.whole.header.stocks c.args.whole.header.agents c.args.closing c.in-Agent.agent) c.put_agent-put.ensures)
