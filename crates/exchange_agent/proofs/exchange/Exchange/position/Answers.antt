use Rattle.std.proofs.Common.{◌≡◌, length, rules}
use Rattle.exchange_agent.specs.Sound.{IsSoundStock}
use Rattle.exchange_agent.specs.View.{state_of, stock_of}
use Rattle.exchange_agent.proofs.States.{sound-stock}
use Rattle.exchange_agent.proofs.exchange.Exchange.position.Goals as goal

pub index-requires-2 : goal.index-requires-2
index-requires-2 c =
    let i = c.self.inside in
    let view : c.args.self.now ≡ state_of i.stocks.items i.cash.items i.pairs.keys i.counts i.hidden = search rules in
    let h : IsSoundStock (length i.cash.items) i.counts.orders i.pairs.keys (stock_of c.index.result.now) =
    sound-stock i.stocks.items i.cash.items i.pairs.keys i.counts i.hidden c.args.self.now c.from.result c.args.stock c.index.result.now view c.self.invariant c.from.ensures c.requires.stock c.index.ensures in
    let traders = h.traders in
    search (rules, traders, c.requires.trader, c.requires.exists, c.from-2.ensures)
