use Rattle.std.proofs.Common.{◌≡◌, ◌<◌, ◌-◌, List, length, sym, subst, rules}
use Rattle.std.proofs.lemmas.List.{get_or-set_same}
use Rattle.price_time_book.specs.declared.levels.Level.{Level}
use Rattle.price_time_book.specs.Indexed.{IsOpenAt, key}
use Rattle.price_time_book.proofs.Firsts.{best_level_at, first_by_level, top_first, top_none}
use Rattle.price_time_book.proofs.Lowers.{indexed_front}
use Rattle.price_time_book.proofs.lowering.first_in.Goals as goal

pub returns-then-is_empty-clause-first : goal.returns-then-is_empty-clause-first
returns-then-is_empty-clause-first c =
    let none : length c.args.levels.now.items ≡ 0 = search rules in
    top_none c.args.queue c.args.orders.now c.args.nexts.now c.args.levels.now.items c.requires none

pub returns-clause-placed : goal.returns-clause-placed
returns-clause-placed c = λ d.
    let ls = c.args.levels.now.items in
    let at = c.place_of_best-at.result in
    let l = c.index.result.now in
    let place = c.front-place.result in
    let h : at < length ls = subst (λ (v : List Level). at < length v) c.as_slice.ensures.value c.place_of_best-at.ensures.within in
    subst (λ (m : Level). IsOpenAt c.args.orders.now (key c.args.queue m.price) place) (sym (get_or-set_same ls at (record l { first = place }) d h)) c.front-place.ensures.found

pub returns-clause-first : goal.returns-clause-first
returns-clause-first c =
    let os = c.args.orders.now in
    let ls = c.args.levels.now.items in
    let at = c.place_of_best-at.result in
    let l = c.index.result.now in
    let seen = c.as_slice.ensures.value in
    let h : at < length ls = subst (λ (v : List Level). at < length v) seen c.place_of_best-at.ensures.within in
    let last : at ≡ length ls - 1 = subst (λ (v : List Level). at ≡ length v - 1) seen c.place_of_best-at.ensures.last in
    let best = best_level_at c.args.queue.side ls at l c.requires.rising h last c.index.ensures in
    top_first c.args.queue os c.front-place.result (first_by_level c.args.queue os c.args.nexts.now ls l c.front-place.result c.requires best c.front-place.ensures.found c.front-place.ensures.before)

pub returns-clause-indexed : goal.returns-clause-indexed
returns-clause-indexed c =
    let ls = c.args.levels.now.items in
    let at = c.place_of_best-at.result in
    let h : at < length ls = subst (λ (v : List Level). at < length v) c.as_slice.ensures.value c.place_of_best-at.ensures.within in
    indexed_front c.args.queue c.args.orders.now c.args.nexts.now ls at c.index.result.now c.front-place.result c.requires h c.index.ensures c.front-place.ensures.from c.front-place.ensures.found c.front-place.ensures.before
