use Rattle.std.proofs.Common.{◌≡◌, length, rules, ap, sym}
use Rattle.exchange_agent.specs.Sound.{IsSoundStock}
use Rattle.exchange_agent.specs.State.{Stock, stock_at}
use Rattle.exchange_agent.specs.View.{state_of, stock_of}
use Rattle.exchange_agent.proofs.States.{at-stock, set-stock, sound-stock, sound_set}
use Rattle.exchange_agent.proofs.exchange.Exchange.put_ticks.Goals as goal

pub invariant_of-self : goal.invariant_of-self
invariant_of-self c =
    let i = c.self.inside in
    let view : c.args.self.now ≡ state_of i.stocks.items i.cash.items i.pairs.keys i.counts i.hidden = search rules in
    let h : IsSoundStock (length i.cash.items) i.counts.orders i.pairs.keys (stock_of c.index_mut.result.now) =
    sound-stock i.stocks.items i.cash.items i.pairs.keys i.counts i.hidden c.args.self.now c.from.result c.args.stock c.index_mut.result.now view c.self.invariant c.from.ensures c.requires (search rules) in
    sound_set i.stocks.items i.cash.items i.pairs.keys i.counts i.hidden c.from.result _ c.self.invariant (record { known = h.known; few = h.few; traders = h.traders; matched = h.matched; taken = h.taken; positions = h.positions })

pub returns : goal.returns
returns c =
    let i = c.self.inside in
    let s = c.args.self.now in
    let k = c.args.stock in
    let r = c.index_mut.result.now in
    let view : s ≡ state_of i.stocks.items i.cash.items i.pairs.keys i.counts i.hidden = search rules in
    let at : stock_at s k ≡ stock_of r = at-stock i.stocks.items i.cash.items i.pairs.keys i.counts i.hidden s c.from.result k r view c.from.ensures c.requires (search rules) in
    set-stock i.stocks.items i.cash.items i.pairs.keys i.counts i.hidden s c.from.result k _ _ view c.from.ensures (ap (λ (x : Stock). record x { bands = c.args.ticks }) (sym at))
