use Rattle.wire_fields.proofs.Digits.{number_of-number_bytes}
use Rattle.wire_fields.proofs.worked.number_bytes_both_ways.Goals as goal

pub returns-clause-again : goal.returns-clause-again
returns-clause-again c = number_of-number_bytes
