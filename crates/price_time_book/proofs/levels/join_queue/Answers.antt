use Rattle.std.proofs.Common.{◌≢◌, ℕ, ◌<◌, ◌-◌, List, get_or, length, sym, ap, ◌∙◌, subst, arith}
use Rattle.std.proofs.lemmas.List.{get_or_default}
use Rattle.std.proofs.lemmas.List.Elements.{All-get_or}
use Rattle.market_types.specs.declared.order.Side.{Side}
use Rattle.market_types.specs.declared.order.Side.TheVariants.{Buy, Sell}
use Rattle.price_time_book.specs.declared.levels.Level.{Level}
use Rattle.price_time_book.specs.Indexed.{IsNoBetter, IsWorse}
use Rattle.price_time_book.proofs.levels.join_queue.Goals.{then-at-len+else-found-order, else-at-len}
use Rattle.price_time_book.proofs.levels.join_queue.Goals as goal

worse : (s : Side) (p q : ℕ) → q ≢ p → IsNoBetter s p q → IsWorse s p q
worse Buy p q n h = omega (arith, n, h)
worse Sell p q n h = omega (arith, n, h)

pub returns-then-found-order-clause-orders : goal.returns-then-found-order-clause-orders
returns-then-found-order-clause-orders c = c.extend.ensures.orders

pub returns-then-found-order-clause-indexed : goal.returns-then-found-order-clause-indexed
returns-then-found-order-clause-indexed c = c.extend.ensures.indexed

pub returns-then-found-order-clause-others : goal.returns-then-found-order-clause-others
returns-then-found-order-clause-others c = c.extend.ensures.others

pub returns-then-found-order-clause-orders_capacity : goal.returns-then-found-order-clause-orders_capacity
returns-then-found-order-clause-orders_capacity c = c.extend.ensures.orders_capacity

pub returns-then-found-order-clause-nexts_len : goal.returns-then-found-order-clause-nexts_len
returns-then-found-order-clause-nexts_len c = c.extend.ensures.nexts_len

pub returns-then-found-order-clause-nexts_capacity : goal.returns-then-found-order-clause-nexts_capacity
returns-then-found-order-clause-nexts_capacity c = c.extend.ensures.nexts_capacity

pub returns-then-found-order-clause-levels_len : goal.returns-then-found-order-clause-levels_len
returns-then-found-order-clause-levels_len c = c.extend.ensures.levels_len

pub returns-then-found-order-clause-levels_capacity : goal.returns-then-found-order-clause-levels_capacity
returns-then-found-order-clause-levels_capacity c = c.extend.ensures.levels_capacity

pub returns-clause-orders : goal.returns-clause-orders
returns-clause-orders c = c.make.ensures.orders

pub returns-clause-indexed : goal.returns-clause-indexed
returns-clause-indexed c = c.make.ensures.indexed

pub returns-clause-others : goal.returns-clause-others
returns-clause-others c = c.make.ensures.others

pub returns-clause-orders_capacity : goal.returns-clause-orders_capacity
returns-clause-orders_capacity c = c.make.ensures.orders_capacity

pub returns-clause-nexts_len : goal.returns-clause-nexts_len
returns-clause-nexts_len c = c.make.ensures.nexts_len

pub returns-clause-nexts_capacity : goal.returns-clause-nexts_capacity
returns-clause-nexts_capacity c = c.make.ensures.nexts_capacity

pub returns-clause-levels_len : goal.returns-clause-levels_len
returns-clause-levels_len c = c.make.ensures.levels_len

pub returns-clause-levels_capacity : goal.returns-clause-levels_capacity
returns-clause-levels_capacity c = c.make.ensures.levels_capacity

pub extend-requires-clause-indexed : goal.extend-requires-clause-indexed
extend-requires-clause-indexed c = c.requires.indexed

pub make-requires-clause-indexed : goal.make-requires-clause-indexed
make-requires-clause-indexed c = c.requires.indexed

pub extend-requires-clause-small : goal.extend-requires-clause-small
extend-requires-clause-small c = λ d. All-get_or (λ (l : Level). l.shares < 18446744069414584320) c.args.levels.now.items c.place_of-at.result d (omega (arith, c.if-at-len.true, c.len.ensures, c.args.levels.now.ok.0)) c.requires.small

pub extend-requires-clause-price : goal.extend-requires-clause-price
extend-requires-clause-price c = λ d.
    let ls = c.args.levels.now.items in
    let at = c.place_of-at.result in
    let l = c.index.result.now in
    let within : at < length ls = omega (arith, c.if-at-len.true, c.len.ensures, c.args.levels.now.ok.0) in
    ap (λ (x : Level). x.price) (sym (c.index.ensures ∙ get_or_default ls at l d within)) ∙ c.if-found-order.true

pub make-requires-clause-below : goal.make-requires-clause-below
make-requires-clause-below c =
    let x = c.args.order in
    let at = c.place_of-at.result in
    subst (λ (ls : List Level). (d : Level) → 0 < at → IsWorse x.side (get_or ls (at - 1) d).price x.price) c.as_slice.ensures.value c.place_of-at.ensures.below

pub make-requires-clause-above : goal.make-requires-clause-above
make-requires-clause-above c = λ d less.
    let x = c.args.order in
    let ls = c.args.levels.now.items in
    let at = c.place_of-at.result in
    let within : at < length ls = omega (arith, less, c.args.levels.now.ok.0) in
    let above = subst (λ (w : List Level). (d : Level) → at < length w → IsNoBetter x.side x.price (get_or w at d).price) c.as_slice.ensures.value c.place_of-at.ensures.above in
    elim c.if-at-len.branch [
      | then-at-len+else-found-order w ↦ worse x.side x.price (get_or ls at d).price (λ e. w.if-found-order.false (ap (λ (l : Level). l.price) (w.index.ensures ∙ get_or_default ls at w.index.result.now d within) ∙ e)) (above d within)
      | else-at-len w ↦ absurd (omega (arith, less, w.if-at-len.false, c.len.ensures))
    ]
