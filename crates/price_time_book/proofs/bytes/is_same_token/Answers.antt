use Rattle.std.proofs.Common.{ℕ, ◌<◌, eqb, ◌&&◌, ◌∙◌, get_or, arith, rules}
use Rattle.price_time_book.proofs.Bytewise.{fourteen_same}
use Rattle.price_time_book.proofs.bytes.is_same_token.Goals as goal

pub returns : goal.returns
returns c =
    let left : (i : ℕ) → get_or c.args.left.now i 0 < 256 = search rules in
    let right : (i : ℕ) → get_or c.args.right.now i 0 < 256 = search rules in
    (λ i. eqb (c.tail.ensures i) (c.tail-2.ensures i) && eqb (c.head.ensures i) (c.head-2.ensures i))
    ∙ fourteen_same c.args.left.now c.args.right.now (omega arith) (omega arith) left right
