use Rattle.std.proofs.Common.{arith}
use Rattle.fundamental_series.proofs.Fronts.{price_here, some_front, value_here}
use Rattle.fundamental_series.proofs.rows.Rows.value_at.Goals as goal

pub overflow_sub-count : goal.overflow_sub-count
overflow_sub-count c =
    some_front c.as_slice.result.now c.self.inside.rows.items c.args.self.now c.args.time c.count_not_later-count.result c.as_slice.ensures.value c.self.view_is c.self.invariant.some_row c.requires c.count_not_later-count.ensures.later

pub returns-clause-value : goal.returns-clause-value
returns-clause-value c =
    let some = some_front c.as_slice.result.now c.self.inside.rows.items c.args.self.now c.args.time c.count_not_later-count.result c.as_slice.ensures.value c.self.view_is c.self.invariant.some_row c.requires c.count_not_later-count.ensures.later in
    value_here c.as_slice.result.now c.self.inside.rows.items c.args.self.now c.args.time c.count_not_later-count.result c.index.result.now c.as_slice.ensures.value c.self.view_is some c.count_not_later-count.ensures.within c.count_not_later-count.ensures.not_later c.count_not_later-count.ensures.later c.index.ensures

pub returns-clause-price : goal.returns-clause-price
returns-clause-price c =
    let some = some_front c.as_slice.result.now c.self.inside.rows.items c.args.self.now c.args.time c.count_not_later-count.result c.as_slice.ensures.value c.self.view_is c.self.invariant.some_row c.requires c.count_not_later-count.ensures.later in
    price_here c.self.inside.rows.items c.count_not_later-count.result c.index.result.now some (omega (arith, c.count_not_later-count.ensures.within, c.as_slice.ensures.len, c.self.inside.rows.ok.0)) c.self.invariant.prices c.index.ensures
