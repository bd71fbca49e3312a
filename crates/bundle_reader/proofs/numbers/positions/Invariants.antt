use Rattle.std.proofs.Common.{◌≡◌, ◌*◌, length, take}
use Rattle.std.specs.Prelude.{All}
use Rattle.std.specs.Int.{w64}
use Rattle.std.specs.Int.RustNames.{FitsSigned}
use Rattle.bundle_frames.specs.Wires.{positions_bytes}
use Rattle.bundle_reader.proofs.numbers.positions.Given as goal

abbrev pub invariant-loop-k : goal.invariant-loop-k
invariant-loop-k l = record {
  bytes : positions_bytes l.list.items ≡ take (8 * l.k) l.bytes;
  count : length l.list.items ≡ l.k;
  fit : All (FitsSigned w64) l.list.items;
}
