use Rattle.std.proofs.Common.{◌≡◌, ◌<◌, List, Some, None, get_or, length, refl, sym, ap, ◌∙◌, subst, option_map}
use Rattle.std.proofs.lemmas.List.{get_or_default}
use Rattle.price_time_book.specs.declared.levels.Queue.{Queue}
use Rattle.price_time_book.specs.declared.resting.Fill.{Fill}
use Rattle.price_time_book.specs.declared.resting.Resting.{Resting}
use Rattle.price_time_book.specs.Indexed.{IsIndexed, nothing, open_orders}
use Rattle.price_time_book.specs.Matched.{fill_of}
use Rattle.price_time_book.specs.Queues.{first_on, hidden_of, shown_of}
use Rattle.price_time_book.proofs.Sides.{hidden_apart, shown_apart}
use Rattle.price_time_book.proofs.Takes.{next_beyond, next_is, next_none, placed_seen, top_seen}
use Rattle.price_time_book.proofs.lowering.take_first.Goals as goal

pub returns-in_err-first-clause-next : goal.returns-in_err-first-clause-next
returns-in_err-first-clause-next c =
    let none = subst (λ (w : List Resting). first_on c.args.mine (open_orders w) ≡ None) c.as_slice.ensures.value c.in_err-first.ensures.first in
    c.from_residual.ensures ∙ sym (ap (option_map (fill_of c.args.shares)) (next_none c.args.side c.args.mine c.args.limit (open_orders c.args.orders.now.items) c.requires.side none))

pub returns-then-not-is_within-clause-next : goal.returns-then-not-is_within-clause-next
returns-then-not-is_within-clause-next c =
    let os = c.args.orders.now.items in
    let i = c.in_ok-first.first.place in
    let seen = c.as_slice.ensures.value in
    let within : i < length os = subst (λ (w : List Resting). i < length w) seen c.in_ok-first.ensures.within in
    let o = c.index.result.now in
    let same : o ≡ get_or os i nothing = c.index.ensures ∙ get_or_default os i o nothing within in
    let top = top_seen c.args.mine c.as_slice.result.now os i o seen same c.in_ok-first.ensures.first in
    sym (ap (option_map (fill_of c.args.shares)) (next_beyond c.args.side c.args.mine c.args.limit (open_orders os) o c.requires.side top (sym c.is_within.ensures ∙ c.if-not-is_within.true)))

pub give-requires-clause-place : goal.give-requires-clause-place
give-requires-clause-place c =
    let os = c.args.orders.now.items in
    let i = c.in_ok-first.first.place in
    let seen = c.as_slice.ensures.value in
    let ls = c.first_on.new.half.shown.items in
    placed_seen (shown_of c.args.mine) c.as_slice.result.now os ls ls c.in_ok-first.first.level i seen refl (c.in_ok-first.ensures.shown_placed c.if-first.true)

pub returns-then-first-clause-next : goal.returns-then-first-clause-next
returns-then-first-clause-next c =
    let os = c.args.orders.now.items in
    let i = c.in_ok-first.first.place in
    let seen = c.as_slice.ensures.value in
    let within : i < length os = subst (λ (w : List Resting). i < length w) seen c.in_ok-first.ensures.within in
    let o = c.index.result.now in
    let same : o ≡ get_or os i nothing = c.index.ensures ∙ get_or_default os i o nothing within in
    let top = top_seen c.args.mine c.as_slice.result.now os i o seen same c.in_ok-first.ensures.first in
    let next = next_is c.args.side c.args.mine c.args.limit (open_orders os) o c.requires.side top (sym c.is_within.ensures ∙ c.if-not-is_within.false) in
    ap (λ (f : Fill). Some f) (c.give.ensures.fill ∙ ap (fill_of c.args.shares) (sym same)) ∙ sym (ap (option_map (fill_of c.args.shares)) next)

pub returns-then-first-clause-hidden : goal.returns-then-first-clause-hidden
returns-then-first-clause-hidden c =
    c.give.ensures.others (hidden_of c.args.mine) c.first_on.new.half.hidden.items (hidden_apart c.args.mine c.args.mine) (subst (λ (w : List Resting). IsIndexed (hidden_of c.args.mine) w c.args.nexts.now c.first_on.new.half.hidden.items) c.as_slice.ensures.value c.first_on.ensures.hidden)

pub returns-then-first-clause-others : goal.returns-then-first-clause-others
returns-then-first-clause-others c = λ t ms n x. c.give.ensures.others t ms (λ e. n (ap (λ (r : Queue). r.side) e)) x

pub give-requires-2-clause-place : goal.give-requires-2-clause-place
give-requires-2-clause-place c =
    let os = c.args.orders.now.items in
    let i = c.in_ok-first.first.place in
    let seen = c.as_slice.ensures.value in
    let ls = c.first_on.new.half.hidden.items in
    placed_seen (hidden_of c.args.mine) c.as_slice.result.now os ls ls c.in_ok-first.first.level i seen refl (c.in_ok-first.ensures.hidden_placed c.if-first.false)

pub returns-clause-next : goal.returns-clause-next
returns-clause-next c =
    let os = c.args.orders.now.items in
    let i = c.in_ok-first.first.place in
    let seen = c.as_slice.ensures.value in
    let within : i < length os = subst (λ (w : List Resting). i < length w) seen c.in_ok-first.ensures.within in
    let o = c.index.result.now in
    let same : o ≡ get_or os i nothing = c.index.ensures ∙ get_or_default os i o nothing within in
    let top = top_seen c.args.mine c.as_slice.result.now os i o seen same c.in_ok-first.ensures.first in
    let next = next_is c.args.side c.args.mine c.args.limit (open_orders os) o c.requires.side top (sym c.is_within.ensures ∙ c.if-not-is_within.false) in
    ap (λ (f : Fill). Some f) (c.give-2.ensures.fill ∙ ap (fill_of c.args.shares) (sym same)) ∙ sym (ap (option_map (fill_of c.args.shares)) next)

pub returns-clause-shown : goal.returns-clause-shown
returns-clause-shown c =
    c.give-2.ensures.others (shown_of c.args.mine) c.first_on.new.half.shown.items (shown_apart c.args.mine c.args.mine) (subst (λ (w : List Resting). IsIndexed (shown_of c.args.mine) w c.args.nexts.now c.first_on.new.half.shown.items) c.as_slice.ensures.value c.first_on.ensures.shown)

pub returns-clause-others : goal.returns-clause-others
returns-clause-others c = λ t ms n x. c.give-2.ensures.others t ms (λ e. n (ap (λ (r : Queue). r.side) e)) x

pub give-requires-clause-indexed : goal.give-requires-clause-indexed
give-requires-clause-indexed c = subst (λ (w : List Resting). IsIndexed (shown_of c.args.mine) w c.args.nexts.now c.first_on.new.half.shown.items) c.as_slice.ensures.value c.first_on.ensures.shown

pub give-requires-clause-count : goal.give-requires-clause-count
give-requires-clause-count c = c.first_on.ensures.count ∙ c.requires.count

pub give-requires-clause-orderly : goal.give-requires-clause-orderly
give-requires-clause-orderly c = c.requires.orderly

pub give-requires-2-clause-indexed : goal.give-requires-2-clause-indexed
give-requires-2-clause-indexed c = subst (λ (w : List Resting). IsIndexed (hidden_of c.args.mine) w c.args.nexts.now c.first_on.new.half.hidden.items) c.as_slice.ensures.value c.first_on.ensures.hidden

pub give-requires-2-clause-count : goal.give-requires-2-clause-count
give-requires-2-clause-count c = c.first_on.ensures.count ∙ c.requires.count

pub give-requires-2-clause-orderly : goal.give-requires-2-clause-orderly
give-requires-2-clause-orderly c = c.requires.orderly

pub returns-then-first-clause-gives : goal.returns-then-first-clause-gives
returns-then-first-clause-gives c = c.give.ensures.gives

pub returns-then-first-clause-filled : goal.returns-then-first-clause-filled
returns-then-first-clause-filled c = c.give.ensures.filled

pub returns-then-first-clause-lessened : goal.returns-then-first-clause-lessened
returns-then-first-clause-lessened c = c.give.ensures.lessened

pub returns-then-first-clause-count : goal.returns-then-first-clause-count
returns-then-first-clause-count c = c.give.ensures.count

pub returns-then-first-clause-other_count : goal.returns-then-first-clause-other_count
returns-then-first-clause-other_count c = c.give.ensures.other_count

pub returns-then-first-clause-orderly : goal.returns-then-first-clause-orderly
returns-then-first-clause-orderly c = c.give.ensures.orderly

pub returns-then-first-clause-small : goal.returns-then-first-clause-small
returns-then-first-clause-small c = c.give.ensures.small

pub returns-then-first-clause-orders_len : goal.returns-then-first-clause-orders_len
returns-then-first-clause-orders_len c = c.give.ensures.orders_len

pub returns-then-first-clause-orders_capacity : goal.returns-then-first-clause-orders_capacity
returns-then-first-clause-orders_capacity c = c.give.ensures.orders_capacity

pub returns-then-first-clause-shown : goal.returns-then-first-clause-shown
returns-then-first-clause-shown c = c.give.ensures.indexed

pub returns-clause-gives : goal.returns-clause-gives
returns-clause-gives c = c.give-2.ensures.gives

pub returns-clause-filled : goal.returns-clause-filled
returns-clause-filled c = c.give-2.ensures.filled

pub returns-clause-lessened : goal.returns-clause-lessened
returns-clause-lessened c = c.give-2.ensures.lessened

pub returns-clause-count : goal.returns-clause-count
returns-clause-count c = c.give-2.ensures.count

pub returns-clause-other_count : goal.returns-clause-other_count
returns-clause-other_count c = c.give-2.ensures.other_count

pub returns-clause-orderly : goal.returns-clause-orderly
returns-clause-orderly c = c.give-2.ensures.orderly

pub returns-clause-small : goal.returns-clause-small
returns-clause-small c = c.give-2.ensures.small

pub returns-clause-orders_len : goal.returns-clause-orders_len
returns-clause-orders_len c = c.give-2.ensures.orders_len

pub returns-clause-orders_capacity : goal.returns-clause-orders_capacity
returns-clause-orders_capacity c = c.give-2.ensures.orders_capacity

pub returns-clause-hidden : goal.returns-clause-hidden
returns-clause-hidden c = c.give-2.ensures.indexed

pub returns-then-not-is_within-clause-shown : goal.returns-then-not-is_within-clause-shown
returns-then-not-is_within-clause-shown c = subst (λ (w : List Resting). IsIndexed (shown_of c.args.mine) w c.args.nexts.now c.first_on.new.half.shown.items) c.as_slice.ensures.value c.first_on.ensures.shown

pub returns-then-not-is_within-clause-hidden : goal.returns-then-not-is_within-clause-hidden
returns-then-not-is_within-clause-hidden c = subst (λ (w : List Resting). IsIndexed (hidden_of c.args.mine) w c.args.nexts.now c.first_on.new.half.hidden.items) c.as_slice.ensures.value c.first_on.ensures.hidden

pub returns-then-not-is_within-clause-count : goal.returns-then-not-is_within-clause-count
returns-then-not-is_within-clause-count c = c.first_on.ensures.count ∙ c.requires.count

pub returns-then-not-is_within-clause-orderly : goal.returns-then-not-is_within-clause-orderly
returns-then-not-is_within-clause-orderly c = c.requires.orderly

pub returns-then-not-is_within-clause-small : goal.returns-then-not-is_within-clause-small
returns-then-not-is_within-clause-small c = λ s. s

pub returns-then-not-is_within-clause-others : goal.returns-then-not-is_within-clause-others
returns-then-not-is_within-clause-others c = λ t ls n x. x

pub returns-then-not-is_within-clause-other_count : goal.returns-then-not-is_within-clause-other_count
returns-then-not-is_within-clause-other_count c = λ t n. refl

pub returns-in_err-first-clause-shown : goal.returns-in_err-first-clause-shown
returns-in_err-first-clause-shown c = subst (λ (w : List Resting). IsIndexed (shown_of c.args.mine) w c.args.nexts.now c.first_on.new.half.shown.items) c.as_slice.ensures.value c.first_on.ensures.shown

pub returns-in_err-first-clause-hidden : goal.returns-in_err-first-clause-hidden
returns-in_err-first-clause-hidden c = subst (λ (w : List Resting). IsIndexed (hidden_of c.args.mine) w c.args.nexts.now c.first_on.new.half.hidden.items) c.as_slice.ensures.value c.first_on.ensures.hidden

pub returns-in_err-first-clause-count : goal.returns-in_err-first-clause-count
returns-in_err-first-clause-count c = c.first_on.ensures.count ∙ c.requires.count

pub returns-in_err-first-clause-orderly : goal.returns-in_err-first-clause-orderly
returns-in_err-first-clause-orderly c = c.requires.orderly

pub returns-in_err-first-clause-small : goal.returns-in_err-first-clause-small
returns-in_err-first-clause-small c = λ s. s

pub returns-in_err-first-clause-others : goal.returns-in_err-first-clause-others
returns-in_err-first-clause-others c = λ t ls n x. x

pub returns-in_err-first-clause-other_count : goal.returns-in_err-first-clause-other_count
returns-in_err-first-clause-other_count c = λ t n. refl
