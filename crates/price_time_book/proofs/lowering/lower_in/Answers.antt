use Rattle.std.proofs.Common.{◌≡◌, inl, inr, get_or, sym, ap, ◌∙◌, refl, arith}
use Rattle.std.proofs.lemmas.Bool.{cases_eq}
use Rattle.std.proofs.lemmas.List.{get_or_default}
use Rattle.price_time_book.specs.declared.resting.Resting.{Resting}
use Rattle.price_time_book.specs.Indexed.{nothing}
use Rattle.price_time_book.proofs.Counts.{depth_kept, depth_left, depth_other}
use Rattle.price_time_book.proofs.Firsts.{key_queue}
use Rattle.price_time_book.proofs.Takes.{IsLowered, lowered, no_level, others_lowered}
use Rattle.price_time_book.proofs.lowering.lower_in.Goals as goal

pub set_left-requires-clause-lower : goal.set_left-requires-clause-lower
set_left-requires-clause-lower c = λ d.
    let here = c.requires.place no_level in
    let left : (get_or c.args.orders.now.items c.args.place d).left ≡ (get_or c.args.orders.now.items c.args.place nothing).left = ap (λ (q : Resting). q.left) (get_or_default c.args.orders.now.items c.args.place d nothing here.within) in
    omega (arith, left, c.requires.lower)

pub returns-clause-list : goal.returns-clause-list
returns-clause-list c =
    let os = c.args.orders.now.items in
    let o = get_or os c.args.place nothing in
    let here = c.requires.place no_level in
    let is : IsLowered os c.set_left.new.orders.items o c.args.left c.args.intended = lowered os c.set_left.new.orders.items c.args.place o c.args.left c.args.intended refl c.requires.orderly here.within c.requires.lower c.requires.size c.set_left.ensures.orders in
    is.list

pub returns-clause-orderly : goal.returns-clause-orderly
returns-clause-orderly c =
    let os = c.args.orders.now.items in
    let o = get_or os c.args.place nothing in
    let here = c.requires.place no_level in
    let is : IsLowered os c.set_left.new.orders.items o c.args.left c.args.intended = lowered os c.set_left.new.orders.items c.args.place o c.args.left c.args.intended refl c.requires.orderly here.within c.requires.lower c.requires.size c.set_left.ensures.orders in
    is.orderly

pub returns-clause-small : goal.returns-clause-small
returns-clause-small c =
    let os = c.args.orders.now.items in
    let o = get_or os c.args.place nothing in
    let here = c.requires.place no_level in
    let is : IsLowered os c.set_left.new.orders.items o c.args.left c.args.intended = lowered os c.set_left.new.orders.items c.args.place o c.args.left c.args.intended refl c.requires.orderly here.within c.requires.lower c.requires.size c.set_left.ensures.orders in
    is.small

pub returns-clause-others : goal.returns-clause-others
returns-clause-others c = λ t ms n x.
    let here = c.requires.place no_level in
    others_lowered c.args.queue t c.args.orders.now.items c.set_left.new.orders.items c.args.nexts.now ms c.args.place c.args.left c.args.intended (get_or c.args.levels.now.items c.args.at no_level).price n here (omega (arith, c.requires.lower)) c.set_left.ensures.orders x

pub count_out-requires : goal.count_out-requires
count_out-requires c = λ z.
    let os = c.args.orders.now.items in
    let i = c.args.place in
    let here = c.requires.place no_level in
    let side = ap (λ r. r.side) (key_queue c.args.queue (get_or c.args.levels.now.items c.args.at no_level).price (get_or os i nothing) here.price) in
    omega (arith, depth_left c.args.queue.side os c.set_left.new.orders.items i c.args.left c.args.intended here.within here.left side z c.set_left.ensures.orders, c.requires.count)

pub returns-clause-count : goal.returns-clause-count
returns-clause-count c =
    let os = c.args.orders.now.items in
    let i = c.args.place in
    let here = c.requires.place no_level in
    let side = ap (λ r. r.side) (key_queue c.args.queue (get_or c.args.levels.now.items c.args.at no_level).price (get_or os i nothing) here.price) in
    elim (cases_eq c.args.left 0) [
      | inl z ↦ omega (arith, c.count_out.ensures.left z, depth_left c.args.queue.side os c.set_left.new.orders.items i c.args.left c.args.intended here.within here.left side z c.set_left.ensures.orders, c.requires.count)
      | inr n ↦ c.count_out.ensures.kept n ∙ c.requires.count ∙ sym (depth_kept c.args.queue.side os c.set_left.new.orders.items i c.args.left c.args.intended here.within here.left n c.set_left.ensures.orders)
    ]

pub returns-clause-other_count : goal.returns-clause-other_count
returns-clause-other_count c = λ t n.
    let os = c.args.orders.now.items in
    let i = c.args.place in
    let here = c.requires.place no_level in
    let side = ap (λ r. r.side) (key_queue c.args.queue (get_or c.args.levels.now.items c.args.at no_level).price (get_or os i nothing) here.price) in
    depth_other t os c.set_left.new.orders.items i c.args.left c.args.intended here.within (λ e. n (sym e ∙ side)) c.set_left.ensures.orders
