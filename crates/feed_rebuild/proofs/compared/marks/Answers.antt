use Rattle.std.proofs.Common.{◌∙◌, ◌<◌, List, length, map, take, sym, ap, arith}
use Rattle.std.proofs.lemmas.List.{take_more}
use Rattle.market_types.specs.declared.order.Side.TheVariants.{Buy}
use Rattle.feed_rebuild.specs.declared.entries.Entry.{Entry}
use Rattle.feed_rebuild.specs.declared.shown.Shown.{Shown}
use Rattle.feed_rebuild.specs.Compared.{is_among}
use Rattle.feed_rebuild.proofs.Marking.{none-marked}
use Rattle.feed_rebuild.proofs.compared.marks.Goals as goal

pub loop-order-init : goal.loop-order-init
loop-order-init c = c.in_ok-marks.ensures ∙ none-marked c.args.entries.now

pub loop-order-preserved : goal.loop-order-preserved
loop-order-preserved c =
    let live = c.args.live.now in
    let i = c.loop-order.order-index in
    let d : Shown = record { stock = 0; reference = 0; side = Buy; left = 0; price = 0 } in
    let within : i < length live = omega arith in
    c.mark.ensures (take i live) c.loop-order.invariant ∙ ap (λ (v : List Shown). map (λ (e : Entry). is_among v e.order) c.args.entries.now) (sym (take_more live i d within))
