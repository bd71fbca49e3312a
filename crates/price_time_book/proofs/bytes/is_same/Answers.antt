use Rattle.std.proofs.Common.{◌≡◌, ℕ, ◌<◌, ◌==◌, get_or, ap, ◌∙◌, arith, rules}
use Rattle.std.proofs.lemmas.Bool.Decides.{nat_tests}
use Rattle.std.proofs.lemmas.Map.Text.{is_eq-slice_cmp}
use Rattle.std.specs.Ordering.{is_eq, nat_cmp}
use Rattle.price_time_book.proofs.Bytewise.{eight_cmp}
use Rattle.price_time_book.proofs.bytes.is_same.Goals as goal

eq-cmp : (a b : ℕ) → (a == b) ≡ is_eq (nat_cmp a b)
eq-cmp a b = grind (arith, nat_tests)

pub returns : goal.returns
returns c =
    let left : (i : ℕ) → get_or c.args.left.now i 0 < 256 = search rules in
    let right : (i : ℕ) → get_or c.args.right.now i 0 < 256 = search rules in
    (λ i. c.from_be_bytes.ensures i == c.from_be_bytes-2.ensures i)
    ∙ eq-cmp _ _
    ∙ ap is_eq (eight_cmp c.args.left.now c.args.right.now (omega arith) (omega arith) left right)
    ∙ is_eq-slice_cmp c.args.left.now c.args.right.now
