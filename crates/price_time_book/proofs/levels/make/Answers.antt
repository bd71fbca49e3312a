use Rattle.std.proofs.Common.{◌≡◌, length, ap, ◌∙◌, rules}
use Rattle.std.specs.List.{insert}
use Rattle.price_time_book.specs.declared.levels.Level.{Level}
use Rattle.price_time_book.proofs.Joins.{indexed_make, others_make}
use Rattle.price_time_book.proofs.levels.make.Goals as goal

pub returns-clause-indexed : goal.returns-clause-indexed
returns-clause-indexed c =
    let os = c.args.orders.now.items in
    let nx = c.args.nexts.now.items in
    let ls = c.args.levels.now.items in
    let x = c.args.order in
    let l : Level = record { price = x.price; first = length os; last = length os; shares = x.left } in
    let t = indexed_make os nx ls x c.args.at c.requires.indexed (search rules) (search rules) (search rules) c.requires.open in
    let place : c.len-place.result ≡ length os = search rules in
    let levels : c.insert.new.self.items ≡ insert ls c.args.at l = c.in-Ok.ensures.items ∙ ap (λ (m : Level). insert ls c.args.at m) (λ i. record { price = x.price; first = place i; last = place i; shares = c.from.ensures i }) in
    rw (c.arrive.ensures.orders, c.arrive.ensures.nexts, levels) t

pub returns-clause-others : goal.returns-clause-others
returns-clause-others c = λ t ms n v.
    rw (c.arrive.ensures.orders, c.arrive.ensures.nexts) (others_make t c.args.orders.now.items c.args.nexts.now.items ms c.args.order n c.requires.open c.requires.indexed.same v)
