use Rattle.std.proofs.Common.{◌≡◌, ◌≤◌, ℕ, List, arith, ap, ◌∙◌, length, min}
use Rattle.market_types.specs.declared.order.Side.{Side}
use Rattle.price_time_book.specs.declared.resting.Resting.{Resting}
use Rattle.price_time_book.specs.Matched.{matched}
use Rattle.price_time_book.specs.Orderly.{IsOrderly}
use Rattle.price_time_book.specs.Sides.{depth_of, opposite_of}
use Rattle.price_time_book.proofs.Stays.{fills-crossing, fills-least}
use Rattle.price_time_book.proofs.book.Book.most_fills.Goals as goal

pub returns-then-not-is_met-clause-enough : goal.returns-then-not-is_met-clause-enough
returns-then-not-is_met-clause-enough c =
    omega (arith, fills-crossing c.args.self.now.list c.args.side c.args.limit c.args.shares, c.is_met.ensures c.if-not-is_met.true)

-- the lesser of the depth of the other side and the shares is enough
lesser : (book : List Resting) (side other : Side) (limit shares depth most : ℕ) → IsOrderly book → other ≡ opposite_of side → depth ≡ depth_of other book → most ≡ min depth shares → length (matched book side limit shares).fills ≤ most
lesser book side other limit shares depth most h is-other is-depth is-most =
    let deep : depth ≡ depth_of (opposite_of side) book = is-depth ∙ ap (λ (s : Side). depth_of s book) is-other in
    omega (arith, fills-least book side limit shares h, deep, is-most)

pub returns-then-most-le-FEW_FILLS-clause-enough : goal.returns-then-most-le-FEW_FILLS-clause-enough
returns-then-most-le-FEW_FILLS-clause-enough c =
    lesser c.args.self.now.list c.args.side c.opposite.result c.args.limit c.args.shares c.depth.result c.min-most.result c.know_order.ensures c.opposite.ensures c.depth.ensures c.min-most.ensures

pub returns-clause-enough : goal.returns-clause-enough
returns-clause-enough c =
    omega (
      arith,
      lesser c.args.self.now.list c.args.side c.opposite.result c.args.limit c.args.shares c.depth.result c.min-most.result c.know_order.ensures c.opposite.ensures c.depth.ensures c.min-most.ensures,
      fills-crossing c.args.self.now.list c.args.side c.args.limit c.args.shares,
      c.crossing.ensures,
      c.min.ensures,
    )
