use Rattle.std.proofs.Common.{arith}
use Rattle.std.proofs.lemmas.List.{at_drop_all}
use Rattle.reopen_cross.specs.Cross.{first_beyond}
use Rattle.reopen_cross.proofs.Clears.{first-within}
use Rattle.reopen_cross.proofs.choosing.first_beyond.Goals as goal

pub loop-order-init : goal.loop-order-init
loop-order-init c = record { least = omega (arith, first-within c.args.sides.now.list.now c.args.shares c.args.sides.now.list.now); bounded = omega arith }

pub returns : goal.returns
returns c = omega (arith, at_drop_all (λ v. first_beyond c.args.sides.now.list.now c.args.shares v) c.args.sides.now.list.now c.loop-order.order-index (omega arith), c.loop-order.invariant.least, c.loop-order.invariant.bounded)
