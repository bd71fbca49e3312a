use Rattle.std.proofs.Common.{arith}
use Rattle.wire_fields.proofs.Digits.{number_read}
use Rattle.wire_fields.proofs.reading.number_at.Goals as goal

pub returns-clause-number : goal.returns-clause-number
returns-clause-number c =
    (number_read c.args.bytes.now c.widened.result c.args.at c.args.n c.from_be_bytes.result c.requires.within c.requires.width
    (λ i. omega (arith, c.type_inv.bytes i)) c.widened.ensures c.from_be_bytes.ensures).0

pub returns-clause-bound : goal.returns-clause-bound
returns-clause-bound c =
    (number_read c.args.bytes.now c.widened.result c.args.at c.args.n c.from_be_bytes.result c.requires.within c.requires.width
    (λ i. omega (arith, c.type_inv.bytes i)) c.widened.ensures c.from_be_bytes.ensures).1
