use Rattle.std.proofs.Common.{ℕ, ◌<◌, get_or, ◌∙◌, arith, rules}
use Rattle.draw_streams.proofs.SameKeys.{numbers_tell}
use Rattle.draw_streams.proofs.stream.is_same.Goals as goal

pub returns : goal.returns
returns c =
    let left : (i : ℕ) → get_or c.args.left.now i 0 < 256 = search rules in
    let right : (i : ℕ) → get_or c.args.right.now i 0 < 256 = search rules in
    c.has_same_numbers.ensures ∙ numbers_tell c.args.left.now c.args.right.now (omega arith) (omega arith) left right
