use Rattle.std.proofs.Common.{◌≡◌, ◌≤◌, ℕ, All, Some, true, length, rules, arith, ap, ◌∙◌, sym, subst, refl}
use Rattle.price_time_book.specs.declared.resting.Resting.{Resting}
use Rattle.price_time_book.specs.Orders.{changed, reduced, order_with}
use Rattle.exchange_agent.specs.Cancel.{open_of}
use Rattle.exchange_agent.specs.Sound.{IsSoundStock, is_known}
use Rattle.exchange_agent.specs.State.{Stock, stock_at}
use Rattle.exchange_agent.specs.View.{state_of, stock_of}
use Rattle.exchange_agent.proofs.States.{at-stock, set-stock, sound-stock, sound_set, rebooked-sound}
use Rattle.exchange_agent.proofs.exchange.Exchange.lower.Goals as goal

pub invariant_of-self : goal.invariant_of-self
invariant_of-self c =
    let i = c.self.inside in
    let s = c.args.self.now in
    let k = c.args.found.now.stock in
    let o = c.args.found.now.order in
    let left = c.open_after-left.result in
    let r = c.index_mut.result.now in
    let view : s ≡ state_of i.stocks.items i.cash.items i.pairs.keys i.counts i.hidden = search rules in
    let at : stock_at s k ≡ stock_of r = at-stock i.stocks.items i.cash.items i.pairs.keys i.counts i.hidden s k k r view refl c.requires.stock (search rules) in
    let h : IsSoundStock (length i.cash.items) i.counts.orders i.pairs.keys (stock_of r) =
    sound-stock i.stocks.items i.cash.items i.pairs.keys i.counts i.hidden s k k r view c.self.invariant refl c.requires.stock (search rules) in
    let held : order_with o.reference r.book.list ≡ Some o = ap (λ (x : Stock). order_with o.reference x.book) (sym at) ∙ c.requires.held in
    let fewer : left ≤ o.left = omega (arith, c.open_after-left.ensures, c.requires.below, c.requires.intended) in
    let p = is_known (length i.cash.items) i.counts.orders i.pairs.keys in
    let known : All (λ (x : Resting). p x ≡ true) (changed (reduced left o) r.book.list) = c.a_reduce_keeps.ensures.tested p (λ x n l e. e) o.reference left r.book.list o held fewer h.known in
    sound_set i.stocks.items i.cash.items i.pairs.keys i.counts i.hidden k c.reduce.new.self c.self.invariant
    (subst (λ (x : Stock). IsSoundStock (length i.cash.items) i.counts.orders i.pairs.keys x) (sym c.reduce.ensures)
    (rebooked-sound (length i.cash.items) i.counts.orders i.pairs.keys (stock_of r) (changed (reduced left o) r.book.list) h known (c.changes_keep.ensures.length (reduced left o) r.book.list)))

pub returns-clause-state : goal.returns-clause-state
returns-clause-state c =
    let i = c.self.inside in
    let s = c.args.self.now in
    let k = c.args.found.now.stock in
    let o = c.args.found.now.order in
    let r = c.index_mut.result.now in
    let view : s ≡ state_of i.stocks.items i.cash.items i.pairs.keys i.counts i.hidden = search rules in
    let at : stock_at s k ≡ stock_of r = at-stock i.stocks.items i.cash.items i.pairs.keys i.counts i.hidden s k k r view refl c.requires.stock (search rules) in
    let made : stock_of c.reduce.new.self ≡ record (stock_at s k) { book = changed (reduced (open_of o c.args.cancel.now.shares) o) (stock_at s k).book } =
    c.reduce.ensures ∙ ap (λ (x : Stock). record x { book = changed (reduced c.open_after-left.result o) x.book }) (sym at) ∙ ap (λ (n : ℕ). record (stock_at s k) { book = changed (reduced n o) (stock_at s k).book }) c.open_after-left.ensures in
    set-stock i.stocks.items i.cash.items i.pairs.keys i.counts i.hidden s k k _ _ view refl made
