use Rattle.bundle_reader.proofs.AsTold.{told_as}
use Rattle.bundle_reader.proofs.laws.what_is_read_is_told.Goals as goal

pub returns : goal.returns
returns c bytes fits = told_as bytes fits
