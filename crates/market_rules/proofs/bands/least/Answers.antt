use Rattle.std.proofs.Common.{rules, arith}
use Rattle.market_rules.specs.Nearest.{IsLeast}
use Rattle.market_rules.proofs.Tables.{IsIn, table, least_next, least_last, least_value, no_band}
use Rattle.market_rules.proofs.bands.least.Goals as goal

pub returns-then-at-bands : goal.returns-then-at-bands
returns-then-at-bands c =
    let bs = c.args.bands.now in
    let i : IsIn bs no_band c.place_of-at.result c.args.price = record { within = c.place_of-at.ensures.within; starts = c.place_of-at.ensures.starts no_band; later = c.place_of-at.ensures.later no_band } in
    let g : IsLeast bs c.args.price c.min.result = least_next bs no_band c.place_of-at.result c.args.price c.next_multiple-next.result c.min.result (table bs no_band c.requires.accepted) i c.next_multiple-next.ensures.multiple c.next_multiple-next.ensures.low c.next_multiple-next.ensures.high (omega arith) (search rules) in
    record { extremum = g; value = least_value bs no_band c.place_of-at.result c.args.price c.min.result i g (omega arith); near = omega arith }

pub returns-else-at-bands : goal.returns-else-at-bands
returns-else-at-bands c =
    let bs = c.args.bands.now in
    let i : IsIn bs no_band c.place_of-at.result c.args.price = record { within = c.place_of-at.ensures.within; starts = c.place_of-at.ensures.starts no_band; later = c.place_of-at.ensures.later no_band } in
    let g : IsLeast bs c.args.price c.next_multiple-next.result = least_last bs no_band c.place_of-at.result c.args.price c.next_multiple-next.result (table bs no_band c.requires.accepted) i c.next_multiple-next.ensures.multiple c.next_multiple-next.ensures.low c.next_multiple-next.ensures.high (omega arith) in
    record { extremum = g; value = least_value bs no_band c.place_of-at.result c.args.price c.next_multiple-next.result i g (omega arith); near = omega arith }
