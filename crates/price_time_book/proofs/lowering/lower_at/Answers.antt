use Rattle.std.proofs.Common.{◌≡◌, true, false, get_or, sym, ap, ◌∙◌, arith}
use Rattle.std.proofs.lemmas.List.{get_or_default}
use Rattle.price_time_book.specs.declared.levels.Queue.{Queue}
use Rattle.price_time_book.specs.declared.resting.Resting.{Resting}
use Rattle.price_time_book.specs.Indexed.{nothing}
use Rattle.price_time_book.specs.Queues.{hidden_of, shown_of}
use Rattle.price_time_book.proofs.Sides.{hidden_apart, queue_is, shown_apart}
use Rattle.price_time_book.proofs.Takes.{level_of}
use Rattle.price_time_book.proofs.lowering.lower_at.Goals as goal

pub lower_in-requires-clause-level : goal.lower_in-requires-clause-level
lower_in-requires-clause-level c =
    let os = c.args.orders.now.items in
    let i = c.args.place in
    let o = c.index-resting.result.now in
    let same : o ≡ get_or os i nothing = c.index-resting.ensures ∙ get_or_default os i o nothing c.requires.within in
    let queue = queue_is (get_or os i nothing) c.args.mine true c.requires.side (sym (ap (λ (q : Resting). q.shown) same) ∙ c.if-resting.true) in
    let found = level_of (shown_of c.args.mine) os c.args.nexts.now c.args.half.now.shown.items c.as_slice.result.now c.place_of-at.result o.price i queue c.requires.within (omega (arith, c.requires.lower)) (ap (λ (q : Resting). q.price) same) c.as_slice.ensures.value c.requires.shown c.place_of-at.ensures.within c.place_of-at.ensures.below c.place_of-at.ensures.above in
    omega (arith, found.0, c.args.half.now.shown.ok.0)

pub lower_in-requires-clause-place : goal.lower_in-requires-clause-place
lower_in-requires-clause-place c =
    let os = c.args.orders.now.items in
    let i = c.args.place in
    let o = c.index-resting.result.now in
    let same : o ≡ get_or os i nothing = c.index-resting.ensures ∙ get_or_default os i o nothing c.requires.within in
    let queue = queue_is (get_or os i nothing) c.args.mine true c.requires.side (sym (ap (λ (q : Resting). q.shown) same) ∙ c.if-resting.true) in
    let found = level_of (shown_of c.args.mine) os c.args.nexts.now c.args.half.now.shown.items c.as_slice.result.now c.place_of-at.result o.price i queue c.requires.within (omega (arith, c.requires.lower)) (ap (λ (q : Resting). q.price) same) c.as_slice.ensures.value c.requires.shown c.place_of-at.ensures.within c.place_of-at.ensures.below c.place_of-at.ensures.above in
    found.1

pub returns-then-resting-clause-hidden : goal.returns-then-resting-clause-hidden
returns-then-resting-clause-hidden c = c.lower_in.ensures.others (hidden_of c.args.mine) c.args.half.now.hidden.items (hidden_apart c.args.mine c.args.mine) c.requires.hidden

pub returns-then-resting-clause-others : goal.returns-then-resting-clause-others
returns-then-resting-clause-others c = λ t ms n x. c.lower_in.ensures.others t ms (λ e. n (ap (λ (r : Queue). r.side) e)) x

pub lower_in-requires-2-clause-level : goal.lower_in-requires-2-clause-level
lower_in-requires-2-clause-level c =
    let os = c.args.orders.now.items in
    let i = c.args.place in
    let o = c.index-resting.result.now in
    let same : o ≡ get_or os i nothing = c.index-resting.ensures ∙ get_or_default os i o nothing c.requires.within in
    let queue = queue_is (get_or os i nothing) c.args.mine false c.requires.side (sym (ap (λ (q : Resting). q.shown) same) ∙ c.if-resting.false) in
    let found = level_of (hidden_of c.args.mine) os c.args.nexts.now c.args.half.now.hidden.items c.as_slice-2.result.now c.place_of-at-2.result o.price i queue c.requires.within (omega (arith, c.requires.lower)) (ap (λ (q : Resting). q.price) same) c.as_slice-2.ensures.value c.requires.hidden c.place_of-at-2.ensures.within c.place_of-at-2.ensures.below c.place_of-at-2.ensures.above in
    omega (arith, found.0, c.args.half.now.hidden.ok.0)

pub lower_in-requires-2-clause-place : goal.lower_in-requires-2-clause-place
lower_in-requires-2-clause-place c =
    let os = c.args.orders.now.items in
    let i = c.args.place in
    let o = c.index-resting.result.now in
    let same : o ≡ get_or os i nothing = c.index-resting.ensures ∙ get_or_default os i o nothing c.requires.within in
    let queue = queue_is (get_or os i nothing) c.args.mine false c.requires.side (sym (ap (λ (q : Resting). q.shown) same) ∙ c.if-resting.false) in
    let found = level_of (hidden_of c.args.mine) os c.args.nexts.now c.args.half.now.hidden.items c.as_slice-2.result.now c.place_of-at-2.result o.price i queue c.requires.within (omega (arith, c.requires.lower)) (ap (λ (q : Resting). q.price) same) c.as_slice-2.ensures.value c.requires.hidden c.place_of-at-2.ensures.within c.place_of-at-2.ensures.below c.place_of-at-2.ensures.above in
    found.1

pub returns-clause-shown : goal.returns-clause-shown
returns-clause-shown c = c.lower_in-2.ensures.others (shown_of c.args.mine) c.args.half.now.shown.items (shown_apart c.args.mine c.args.mine) c.requires.shown

pub returns-clause-others : goal.returns-clause-others
returns-clause-others c = λ t ms n x. c.lower_in-2.ensures.others t ms (λ e. n (ap (λ (r : Queue). r.side) e)) x
