use Rattle.std.proofs.Common.{arith, refl, rules}
use Rattle.wire_fields.proofs.Spelled.{message_read, message_again, good_read}
use Rattle.wire_fields.proofs.checking.check.Goals as goal

pub returns-then-bytes-needed-clause-only : goal.returns-then-bytes-needed-clause-only
returns-then-bytes-needed-clause-only c w kinds is = absurd (omega (arith, (message_again c.args.kinds.now c.args.bytes.now w kinds is).len))

pub returns-in-Some-clause-only : goal.returns-in-Some-clause-only
returns-in-Some-clause-only c w kinds is = let good = (message_again c.args.kinds.now c.args.bytes.now w kinds is).good in absurd (cc (good, c.in-Some.ensures))

pub returns-in-None-clause-spelled : goal.returns-in-None-clause-spelled
returns-in-None-clause-spelled c = message_read c.args.kinds.now c.args.bytes.now (λ i. omega (arith, c.type_inv.bytes i)) (omega arith) (search rules)

pub returns-in-None-clause-only : goal.returns-in-None-clause-only
returns-in-None-clause-only c w kinds is = (refl, (message_again c.args.kinds.now c.args.bytes.now w kinds is).same)

pub returns-in-None-clause-good : goal.returns-in-None-clause-good
returns-in-None-clause-good c = good_read c.args.kinds.now 1 c.args.bytes.now (search rules)
