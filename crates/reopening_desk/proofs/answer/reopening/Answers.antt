use Rattle.std.proofs.Common.{◌∙◌, ℕ, ◌-◌, List, ap, arith, drop, length, length-drop, map}
use Rattle.std.proofs.lemmas.List.{take_all}
use Rattle.reopen_cross.specs.Cross.{cross_of}
use Rattle.kernel_core.specs.State.{State}
use Rattle.exchange_agent.specs.State.{State as Exchange, stock_at}
use Rattle.reopen_cross.specs.declared.cross.Interest.{Interest}
use Rattle.reopen_cross.specs.declared.cross.Part.{Part}
use Rattle.reopening_desk.specs.Reopened.{interest_of, parts_in}
use Rattle.reopening_desk.proofs.Together.{answer-is, list-is, moment-is, tail-is}
use Rattle.reopening_desk.proofs.Few.{parts-few}
use Rattle.reopening_desk.proofs.answer.reopening.Goals as goal

pub put_reopening-requires-clause-parts : goal.put_reopening-requires-clause-parts
put_reopening-requires-clause-parts c = omega (
  arith,
  parts-few c.deref-2.result.now c.in_ok-cross.cross,
  ap (λ (xs : List Part). length xs) (c.deref-4.ensures.value ∙ c.in_ok-parts.ensures.parts),
  ap (λ (xs : List Interest). length xs) c.deref-2.ensures.value,
  c.in_ok-join.ensures.interests.few,
)

pub returns-in_err-list-clause-clears : goal.returns-in_err-list-clause-clears
returns-in_err-list-clause-clears c = c.reopenings_clear.ensures.clears _ _ c.args.kernel.now c.args.stock.number c.args.orders.now c.requires.small c.requires.stock c.requires.orders

pub returns-in_err-join-clause-clears : goal.returns-in_err-join-clause-clears
returns-in_err-join-clause-clears c = c.reopenings_clear.ensures.clears _ _ c.args.kernel.now c.args.stock.number c.args.orders.now c.requires.small c.requires.stock c.requires.orders

pub returns-in_err-cross-clause-clears : goal.returns-in_err-cross-clause-clears
returns-in_err-cross-clause-clears c = c.reopenings_clear.ensures.clears _ _ c.args.kernel.now c.args.stock.number c.args.orders.now c.requires.small c.requires.stock c.requires.orders

pub returns-in_err-parts-clause-clears : goal.returns-in_err-parts-clause-clears
returns-in_err-parts-clause-clears c = c.reopenings_clear.ensures.clears _ _ c.args.kernel.now c.args.stock.number c.args.orders.now c.requires.small c.requires.stock c.requires.orders

pub returns-in_err-put_reopening-clause-clears : goal.returns-in_err-put_reopening-clause-clears
returns-in_err-put_reopening-clause-clears c = c.reopenings_clear.ensures.clears _ _ c.args.kernel.now c.args.stock.number c.args.orders.now c.requires.small c.requires.stock c.requires.orders

pub returns-clause-clears : goal.returns-clause-clears
returns-clause-clears c = c.reopenings_clear.ensures.clears _ _ c.args.kernel.now c.args.stock.number c.args.orders.now c.requires.small c.requires.stock c.requires.orders

pub returns-clause-told : goal.returns-clause-told
returns-clause-told c =
    let s : State = c.args.kernel.now in
    let stock = c.args.stock in
    let filed = c.args.orders.now in
    let book = c.in_ok-list.list.items in
    let list = c.join.new.list.items in
    let counted = ap (λ (n : _). n.orders) (c.counts-counts.ensures ∙ ap (λ (x : Exchange). x.counts) c.exchange-exchange.ensures.value) in
    let matched = ap (λ (n : _). n.matches) (c.counts-counts.ensures ∙ ap (λ (x : Exchange). x.counts) c.exchange-exchange.ensures.value) in
    let made = c.in_ok-list.ensures.same ∙ ap (λ (x : Exchange). map interest_of (stock_at x stock.number).book) c.exchange-exchange.ensures.value in
    let joined = c.in_ok-join.ensures.joined in
    let n : ℕ = c.len-resting.result in
    let l : List Interest = c.deref-3.result.now in
    answer-is s stock filed _ list _ c.in_ok-cross.cross c.deref-4.result.now c.new-out.result.items c.put_reopening.new.out.items
    c.new-out.ensures.items (moment-is s stock c.time.result c.counts-counts.result.matches c.time.ensures.value matched)
    (take_all (length l - n) (drop n l) (omega (arith, length-drop n l)) ∙ ap (λ (xs : List Interest). drop n xs) c.deref-3.ensures.value
    ∙ tail-is s c.counts-counts.result.orders n filed book list counted (omega (arith, c.len-resting.ensures)) joined)
    (list-is s stock.number c.counts-counts.result.orders filed book list counted made joined)
    (c.in_ok-cross.ensures.cross ∙ ap (λ (xs : List Interest). cross_of xs) c.deref.ensures.value)
    (c.deref-4.ensures.value ∙ c.in_ok-parts.ensures.parts ∙ ap (λ (xs : List Interest). parts_in xs c.in_ok-cross.cross) c.deref-2.ensures.value)
    c.in_ok-put_reopening.ensures
