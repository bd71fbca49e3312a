use Rattle.std.proofs.Common.{◌≡◌, ◌≤◌, length}
use Rattle.bundle_reader.specs.Told.{BundleTold, reading_told}
use Rattle.bundle_reader.specs.Bundle.{IsBundle, bundle_bytes}
use Rattle.bundle_reader.specs.Reads.{Reached}
use Rattle.bundle_reader.proofs.Reached.{IsAhead}
use Rattle.bundle_reader.proofs.bundle.read_bundle.Given as goal

-- what was read so far, and what is ahead of it in each bundle that the bytes are
abbrev pub invariant-loop-alloc : goal.invariant-loop-alloc
invariant-loop-alloc l = record {
  reached : Reached l.bytes (reading_told l.reading) l.rest;
  ahead : (b : BundleTold) → IsBundle b → l.bytes ≡ bundle_bytes b → IsAhead (reading_told l.reading) l.rest b;
  within : length l.rest ≤ length l.bytes;
}

abbrev pub decreases-loop-alloc : goal.decreases-loop-alloc
decreases-loop-alloc l = length l.rest
