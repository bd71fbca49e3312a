use Rattle.std.proofs.Common.{◌-◌, false, None, length, sym, ap, arith}
use Rattle.market_types.specs.declared.order.Side.TheVariants.{Buy}
use Rattle.feed_rebuild.specs.declared.entries.Entry.{Entry}
use Rattle.feed_rebuild.specs.Fold.{is_later}
use Rattle.feed_rebuild.proofs.Places.{last-at}
use Rattle.feed_rebuild.proofs.entries.is_above.Goals as goal

pub returns-else-count-eq0 : goal.returns-else-count-eq0
returns-else-count-eq0 c =
    let es = c.args.entries.now in
    let d : Entry = record { order = record { stock = 0; reference = 0; side = Buy; left = 0; price = 0 }; gone = false } in
    ap (λ o. is_later o c.args.reference) (sym (last-at None es (length es - 1) d (omega arith)))
