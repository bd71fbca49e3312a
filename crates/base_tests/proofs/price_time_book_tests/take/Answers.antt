use Rattle.std.proofs.Common.{◌-◌, ◌<◌, ◌≤◌, All, List, length, arith}
use Rattle.price_time_book.specs.declared.resting.Fill.{Fill}
use Rattle.price_time_book.specs.declared.resting.Resting.{Resting}
use Rattle.price_time_book.proofs.Changes.{kept}
use Rattle.base_tests.proofs.price_time_book_tests.take.Goals as goal

-- the resting order once it gave the shares of a fill
abbrev given : Fill → Resting
given f = record (f.resting) { left = f.resting.left - f.shares }

pub returns-clause-before : goal.returns-clause-before
returns-clause-before c =
    let book = c.args.book.now.list in
    kept (λ (w : List Resting). All (λ (o : Resting). o.reference < c.args.next) w) given c.match_next.result book c.match_next.new.self.list c.match_next.ensures.filled c.match_next.ensures.unmatched
    (λ o. c.changes_keep.ensures.references c.args.next o book c.requires.before) c.requires.before

pub returns-clause-few : goal.returns-clause-few
returns-clause-few c =
    let book = c.args.book.now.list in
    kept (λ (w : List Resting). length w ≤ length book) given c.match_next.result book c.match_next.new.self.list c.match_next.ensures.filled c.match_next.ensures.unmatched
    (λ o. c.changes_keep.ensures.length o book) (omega arith)
