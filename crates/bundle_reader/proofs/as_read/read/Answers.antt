use Rattle.bundle_reader.proofs.AsRead.{answer_as}
use Rattle.bundle_reader.proofs.as_read.read.Goals as goal

pub returns : goal.returns
returns c =
    let had = c.read_bundle.ensures in
    record { answer = answer_as c.args.bytes.now c.read_bundle.result had.told had.bundle had.stopped }
