use Rattle.std.proofs.Common.{◌≡◌, ◌<◌, length, get_or, sym, rules}
use Rattle.std.proofs.lemmas.List.{get_or_default}
use Rattle.price_time_book.specs.declared.levels.Level.{Level}
use Rattle.price_time_book.proofs.Firsts.{best_by_level, best_level_at, best_none, right_at}
use Rattle.price_time_book.proofs.levels.best_in.Goals as goal

pub returns-then-is_empty : goal.returns-then-is_empty
returns-then-is_empty c = λ os nx x.
    let none : length c.args.levels.now ≡ 0 = search rules in
    sym (best_none c.args.queue os nx c.args.levels.now x none)

pub returns : goal.returns
returns c = λ os nx x.
    let ls = c.args.levels.now in
    let at = c.place_of_best.result in
    let d : Level = record { price = 0; first = 0; last = 0; shares = 0 } in
    let l = get_or ls at d in
    let h : at < length ls = c.place_of_best.ensures.within in
    let e : l ≡ get_or ls at l = get_or_default ls at d l h in
    sym (best_by_level c.args.queue os nx ls l x (best_level_at c.args.queue.side ls at l x.rising h c.place_of_best.ensures.last e) (right_at c.args.queue os nx ls at l x h e))
