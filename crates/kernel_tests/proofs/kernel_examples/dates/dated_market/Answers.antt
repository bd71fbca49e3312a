use Rattle.std.proofs.Common.{◌≡◌, ◌≤◌, ◌<◌, List, length, ap, sym, subst, arith}
use Rattle.market_rules.specs.declared.changes.Dated.{Dated}
use Rattle.market_floor.specs.declared.opening.Opening.{Opening}
use Rattle.market_floor.specs.Opening.{IsOpening}
use Rattle.kernel_core.specs.EditsWorked.{later_ticks}
use Rattle.kernel_tests.proofs.Dated.{dated-opens, later-ticks-dated}
use Rattle.kernel_tests.proofs.kernel_examples.dates.dated_market.Goals as goal

pub returns : goal.returns
returns g c =
    let o : Opening = c.market-o.result in
    let made = c.market-o.ensures.made in
    let start : o.start ≤ 1500 = omega (arith, ap (λ (q : Opening). q.start) made) in
    let close : 1500 ≤ o.close = omega (arith, ap (λ (q : Opening). q.close) made) in
    let some : 0 < length o.stocks = omega (arith, ap (λ (q : Opening). length q.stocks) made) in
    let is : c.later_ticks.result ≡ later_ticks = c.later_ticks.ensures in
    subst (λ (ds : List Dated). IsOpening (record o { dated = ds })) (sym is) (dated-opens o later_ticks c.market-o.ensures.opening (later-ticks-dated o start close some))
