use Rattle.std.proofs.Common.{◌≡◌, ◌-◌, get_or, set, sym, ap, ◌∙◌, subst, arith, rules}
use Rattle.std.specs.List.{remove}
use Rattle.std.proofs.lemmas.List.{get_or_default}
use Rattle.price_time_book.specs.declared.levels.Level.{Level}
use Rattle.price_time_book.specs.declared.resting.Resting.{Resting}
use Rattle.price_time_book.specs.Indexed.{IsOpenAt, IsIndexed, key, nothing}
use Rattle.price_time_book.proofs.Lowers.{indexed_close, indexed_lower}
use Rattle.price_time_book.proofs.lowering.set_left.Goals as goal

pub index-order-requires : goal.index-order-requires
index-order-requires c = omega (arith, (c.requires.place (record { price = 0; first = 0; last = 0; shares = 0 })).within, c.args.orders.now.ok.0)

pub index_mut-requires : goal.index_mut-requires
index_mut-requires c = omega (arith, (c.requires.place (record { price = 0; first = 0; last = 0; shares = 0 })).within, c.args.orders.now.ok.0)

pub returns-then-level-taken-clause-indexed : goal.returns-then-level-taken-clause-indexed
returns-then-level-taken-clause-indexed c =
    let os = c.args.orders.now.items in
    let ls = c.args.levels.now.items in
    let i = c.args.place in
    let l = c.index-level.result.now in
    let o = c.index-order.result.now in
    let e : l ≡ get_or ls c.args.at l = c.index-level.ensures in
    let placed : IsOpenAt os (key c.args.queue l.price) i = subst (λ (m : Level). IsOpenAt os (key c.args.queue m.price) i) (sym e) (c.requires.place l) in
    let same : o ≡ get_or os i nothing = c.index-order.ensures ∙ get_or_default os i o nothing placed.within in
    let lower = c.requires.lower nothing in
    let left : o.left ≡ (get_or os i nothing).left = ap (λ (m : Resting). m.left) same in
    let by : c.from-taken.result ≡ o.left - c.args.left = c.from-taken.ensures in
    let none = c.if-level-taken.true in
    let t = indexed_close c.args.queue os c.args.nexts.now ls c.args.at l i c.args.left c.args.intended c.requires.indexed (search rules) e placed (omega arith) (omega arith) in
    rw c.remove.ensures.items (subst (λ (q : Resting). IsIndexed c.args.queue (set os i (record q { left = c.args.left; intended = c.args.intended })) c.args.nexts.now (remove ls c.args.at)) (sym same) t)

pub returns-clause-indexed : goal.returns-clause-indexed
returns-clause-indexed c =
    let os = c.args.orders.now.items in
    let ls = c.args.levels.now.items in
    let i = c.args.place in
    let l = c.index-level.result.now in
    let o = c.index-order.result.now in
    let e : l ≡ get_or ls c.args.at l = c.index-level.ensures in
    let placed : IsOpenAt os (key c.args.queue l.price) i = subst (λ (m : Level). IsOpenAt os (key c.args.queue m.price) i) (sym e) (c.requires.place l) in
    let same : o ≡ get_or os i nothing = c.index-order.ensures ∙ get_or_default os i o nothing placed.within in
    let lower = c.requires.lower nothing in
    let left : o.left ≡ (get_or os i nothing).left = ap (λ (m : Resting). m.left) same in
    let by : c.from-taken.result ≡ o.left - c.args.left = c.from-taken.ensures in
    let some = c.if-level-taken.false in
    let t = indexed_lower c.args.queue os c.args.nexts.now ls c.args.at l i c.args.left c.args.intended (l.shares - c.from-taken.result) c.requires.indexed (search rules) e placed (omega arith) (omega arith) (omega arith) in
    subst (λ (q : Resting). IsIndexed c.args.queue (set os i (record q { left = c.args.left; intended = c.args.intended })) c.args.nexts.now (set ls c.args.at (record l { shares = l.shares - c.from-taken.result }))) (sym same) t
