use Rattle.std.proofs.Common.{◌≡◌, ◌≤◌, length, arith, ap}
use Rattle.reopen_cross.specs.Ladders.{from}
use Rattle.reopen_cross.proofs.Ladders.{differ}
use Rattle.reopen_cross.proofs.ladder.Ladder.from.Goals as goal

pub overflow_sub-result : goal.overflow_sub-result
overflow_sub-result c =
    let s = c.args.self.now in
    let len : c.len.result ≡ length s.orders.items = omega (arith, c.len.ensures, c.as_slice.ensures.len, ap length c.as_slice.ensures.value) in
    let within : c.count_below.result ≤ length s.orders.items = omega (arith, c.count_below.ensures.within, ap length c.as_slice.ensures.value) in
    let shares = rw c.as_slice.ensures.value at c.count_below.ensures.shares in
    omega (arith, differ s.orders.items s.sums.items c.len.result c.count_below.result c.index.result.now c.index-2.result.now (from c.args.price s.orders.items) s.summed len within c.index.ensures c.index-2.ensures shares)

pub returns : goal.returns
returns c =
    let s = c.args.self.now in
    let len : c.len.result ≡ length s.orders.items = omega (arith, c.len.ensures, c.as_slice.ensures.len, ap length c.as_slice.ensures.value) in
    let within : c.count_below.result ≤ length s.orders.items = omega (arith, c.count_below.ensures.within, ap length c.as_slice.ensures.value) in
    let shares = rw c.as_slice.ensures.value at c.count_below.ensures.shares in
    omega (arith, differ s.orders.items s.sums.items c.len.result c.count_below.result c.index.result.now c.index-2.result.now (from c.args.price s.orders.items) s.summed len within c.index.ensures c.index-2.ensures shares)
