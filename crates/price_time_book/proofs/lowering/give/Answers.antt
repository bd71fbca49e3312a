use Rattle.std.proofs.Common.{◌≡◌, ◌≤◌, ◌-◌, get_or, sym, ap, ◌∙◌, arith}
use Rattle.std.proofs.lemmas.List.{get_or_default}
use Rattle.price_time_book.specs.declared.resting.Resting.{Resting}
use Rattle.price_time_book.specs.Indexed.{nothing, open_orders}
use Rattle.price_time_book.specs.Matched.{fill_of}
use Rattle.price_time_book.specs.Orders.{changed}
use Rattle.price_time_book.proofs.Lowers.{open_each}
use Rattle.price_time_book.proofs.Takes.{no_level}
use Rattle.price_time_book.proofs.lowering.give.Goals as goal

pub index-resting-requires : goal.index-resting-requires
index-resting-requires c = omega (arith, (c.requires.place no_level).within, c.args.orders.now.ok.0)

pub lower_in-requires-clause-lower : goal.lower_in-requires-clause-lower
lower_in-requires-clause-lower c =
    let os = c.args.orders.now.items in
    let i = c.args.place in
    let here = c.requires.place no_level in
    let o = c.index-resting.result.now in
    let same : o ≡ get_or os i nothing = c.index-resting.ensures ∙ get_or_default os i o nothing here.within in
    let left = ap (λ (q : Resting). q.left) same in
    omega (arith, c.min-taken.ensures, c.requires.some, here.left, left)

pub lower_in-requires-clause-size : goal.lower_in-requires-clause-size
lower_in-requires-clause-size c =
    let os = c.args.orders.now.items in
    let i = c.args.place in
    let here = c.requires.place no_level in
    let o = c.index-resting.result.now in
    let same : o ≡ get_or os i nothing = c.index-resting.ensures ∙ get_or_default os i o nothing here.within in
    let left = ap (λ (q : Resting). q.left) same in
    let intended = ap (λ (q : Resting). q.intended) same in
    let le = open_each (λ (q : Resting). q.left ≤ q.intended) os i here.within here.left c.requires.orderly.within in
    omega (arith, left, intended, le)

pub returns-clause-fill : goal.returns-clause-fill
returns-clause-fill c =
    let os = c.args.orders.now.items in
    let i = c.args.place in
    let here = c.requires.place no_level in
    let o = c.index-resting.result.now in
    let same : o ≡ get_or os i nothing = c.index-resting.ensures ∙ get_or_default os i o nothing here.within in
    let left = ap (λ (q : Resting). q.left) same in
    ap (λ n. record { resting = o; shares = n }) (c.min-taken.ensures ∙ omega arith) ∙ ap (fill_of c.args.shares) same

pub returns-clause-gives : goal.returns-clause-gives
returns-clause-gives c =
    let os = c.args.orders.now.items in
    let i = c.args.place in
    let here = c.requires.place no_level in
    let o = c.index-resting.result.now in
    let same : o ≡ get_or os i nothing = c.index-resting.ensures ∙ get_or_default os i o nothing here.within in
    let left = ap (λ (q : Resting). q.left) same in
    omega (arith, c.min-taken.ensures, c.requires.some, here.left, left)

pub returns-clause-filled : goal.returns-clause-filled
returns-clause-filled c =
    let os = c.args.orders.now.items in
    let i = c.args.place in
    let here = c.requires.place no_level in
    let o = c.index-resting.result.now in
    let same : o ≡ get_or os i nothing = c.index-resting.ensures ∙ get_or_default os i o nothing here.within in
    let left = ap (λ (q : Resting). q.left) same in
    c.lower_in.ensures.list ∙ ap (λ (q : Resting). changed (record q { left = o.left - c.min-taken.result; intended = o.intended }) (open_orders os)) (sym same)
