use Rattle.std.proofs.Common.{◌≡◌, ◌<◌, ◌++◌, ◌∷◌, [], length, set, ap, ◌∙◌, rules}
use Rattle.price_time_book.proofs.Joins.{indexed_extend, others_extend}
use Rattle.price_time_book.proofs.Firsts.{right_at}
use Rattle.price_time_book.specs.Queues.{queue_of}
use Rattle.price_time_book.proofs.levels.extend.Goals as goal

pub returns-clause-indexed : goal.returns-clause-indexed
returns-clause-indexed c =
    let os = c.args.orders.now.items in
    let nx = c.args.nexts.now.items in
    let ls = c.args.levels.now.items in
    let x = c.args.order in
    let l = c.index-level.result.now in
    let t = indexed_extend os nx ls x c.args.at l c.requires.indexed (search rules) c.index-level.ensures (search rules) c.requires.open in
    let place : c.len-place.result ≡ length os = search rules in
    let nexts : c.arrive.new.nexts.items ≡ set nx l.last (length os) ++ length os ∷ [] = c.arrive.ensures.nexts ∙ ap (λ k. set nx l.last k ++ length os ∷ []) place in
    rw (c.arrive.ensures.orders, nexts, place, c.from.ensures) t

pub returns-clause-others : goal.returns-clause-others
returns-clause-others c = λ t ms n v.
    let os = c.args.orders.now.items in
    let nx = c.args.nexts.now.items in
    let ls = c.args.levels.now.items in
    let x = c.args.order in
    let l = c.index-level.result.now in
    let h : c.args.at < length ls = search rules in
    let right = right_at (queue_of x) os nx ls c.args.at l c.requires.indexed h c.index-level.ensures in
    let place : c.len-place.result ≡ length os = search rules in
    let nexts : c.arrive.new.nexts.items ≡ set nx l.last (length os) ++ length os ∷ [] = c.arrive.ensures.nexts ∙ ap (λ k. set nx l.last k ++ length os ∷ []) place in
    rw (c.arrive.ensures.orders, nexts) (others_extend t os nx ms x l.last l.price n c.requires.open c.requires.indexed.same right.last v)
