use Rattle.std.proofs.Common.{subst}
use Rattle.wire_fields.specs.Wire.{IsInRange}
use Rattle.bundle_reader.specs.declared.head.Head.{Head}
use Rattle.bundle_reader.specs.declared.head.Head.TheVariants as head
use Rattle.bundle_reader.specs.Heads.{head_wire}
use Rattle.bundle_reader.specs.declared.frame.Frame.{Frame}
use Rattle.bundle_reader.specs.declared.frame.Frame.TheVariants.{Edit, Counts, Order, End}
use Rattle.bundle_reader.specs.Parts.{IsOf}
use Rattle.bundle_reader.proofs.Joined.{alone_of, edit_of, counts_of, order_of, end_of, made_of}
use Rattle.bundle_reader.proofs.payload.headed.Goals.{in-Header, in-Branch, in-Event, in-Edit, in-Counts, in-Stock, in-Order, in-Waiting, in-End}
use Rattle.bundle_reader.proofs.payload.headed.Goals as goal

pub event-requires-clause-range : goal.event-requires-clause-range
event-requires-clause-range c = let P : Head → Type 0 = λ k. IsInRange (head_wire k) in subst P c.in-Event.is c.requires.in_range

pub agent-requires : goal.agent-requires
agent-requires c = let P : Head → Type 0 = λ k. IsInRange (head_wire k) in subst P c.in-Agent.is c.requires.in_range

pub returns-clause-frame : goal.returns-clause-frame
returns-clause-frame c =
    let stocks = c.args.stocks in
    let h = c.args.head.now in
    let rest = c.args.rest.now in
    let o = c.match-head.result in
    let P : Frame → Type 0 = λ f. IsOf c.args.stocks c.args.head.now c.args.rest.now f in
    let range = c.requires.in_range in
    elim c.match-head.branch [
      | in-Header w ↦ made_of stocks h (head.Header w.in-Header.h) rest o w.header.result w.result-is w.in-Header.is w.header.ensures.frame
      | in-Branch w ↦ made_of stocks h (head.Branch w.in-Branch.h) rest o w.branch-h.result w.result-is w.in-Branch.is w.branch-h.ensures.frame
      | in-Event w ↦ made_of stocks h (head.Event w.in-Event.h) rest o w.event.result w.result-is w.in-Event.is w.event.ensures.frame
      | in-Edit w ↦
          alone_of P o w.alone.result rest (Edit w.in-Edit.h) w.result-is w.alone.ensures (edit_of stocks h rest w.in-Edit.h w.in-Edit.is range)
      | in-Counts w ↦
          alone_of P o w.alone-in-Counts.result rest (Counts w.in-Counts.h) w.result-is w.alone-in-Counts.ensures (counts_of stocks h rest w.in-Counts.h w.in-Counts.is range)
      | in-Stock w ↦ made_of stocks h (head.Stock w.in-Stock.h) rest o w.stock.result w.result-is w.in-Stock.is w.stock.ensures.frame
      | in-Order w ↦
          alone_of P o w.alone-in-Order.result rest (Order w.in-Order.h) w.result-is w.alone-in-Order.ensures (order_of stocks h rest w.in-Order.h w.in-Order.is range)
      | in-Waiting w ↦ made_of stocks h (head.Waiting w.in-Waiting.h) rest o w.waiting.result w.result-is w.in-Waiting.is w.waiting.ensures.frame
      | in-End w ↦
          alone_of P o w.alone-in-End.result rest (End w.in-End.branches) w.result-is w.alone-in-End.ensures (end_of stocks h rest w.in-End.branches w.in-End.is range)
    ]
