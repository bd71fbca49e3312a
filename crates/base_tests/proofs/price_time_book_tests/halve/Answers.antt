use Rattle.std.proofs.Common.{◌/◌, ◌<◌, ◌≤◌, All, List, length, arith}
use Rattle.price_time_book.specs.declared.resting.Resting.{Resting}
use Rattle.price_time_book.specs.Orders.{reduced}
use Rattle.price_time_book.proofs.Changes.{kept}
use Rattle.base_tests.proofs.price_time_book_tests.halve.Goals as goal

pub returns-clause-before : goal.returns-clause-before
returns-clause-before c =
    let book = c.args.book.now.list in
    kept (λ (w : List Resting). All (λ (o : Resting). o.reference < c.args.next) w) (reduced (c.in_ok-held.field-0.now.left / 2)) c.reduce.result book c.reduce.new.self.list c.reduce.ensures.reduced c.reduce.ensures.absent
    (λ o. c.changes_keep.ensures.references c.args.next o book c.requires.before) c.requires.before

pub returns-clause-few : goal.returns-clause-few
returns-clause-few c =
    let book = c.args.book.now.list in
    kept (λ (w : List Resting). length w ≤ length book) (reduced (c.in_ok-held.field-0.now.left / 2)) c.reduce.result book c.reduce.new.self.list c.reduce.ensures.reduced c.reduce.ensures.absent
    (λ o. c.changes_keep.ensures.length o book) (omega arith)
