use Rattle.bundle_reader.proofs.AsRead.{answer_as, bundle_as, refused_as}
use Rattle.bundle_reader.proofs.laws.bytes_are_read_as_told.Goals as goal

pub returns : goal.returns
returns c = record { bundle = bundle_as; stopped = refused_as; answered = answer_as }
