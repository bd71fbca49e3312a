use Rattle.std.proofs.Common.{◌≡◌, IfOk, List, subst}
use Rattle.price_time_book.specs.declared.resting.Resting.{Resting}
use Rattle.price_time_book.proofs.Takes.{filter_open}
use Rattle.price_time_book.proofs.search.open_of.Goals as goal

pub returns : goal.returns
returns c = subst (λ (w : List Resting). IfOk c.kept.result (λ v. v.items ≡ w)) (filter_open c.args.orders.now) c.kept.ensures
