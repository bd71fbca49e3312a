use Rattle.std.proofs.Common.{arith}
use Rattle.trace_bundle.proofs.segment_tallies.SegmentTalliesCarrierTally.bytes.Goals as goal

pub returns : goal.returns
returns c = record { behind = λ before n few is. c.with.ensures before n (omega (arith, is.few, few)) is }
