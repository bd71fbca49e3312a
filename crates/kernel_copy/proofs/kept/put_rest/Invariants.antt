use Rattle.std.proofs.Common.{◌≡◌, ◌++◌, All, length}
use Rattle.std.specs.List.{flat_map}
use Rattle.bundle_frames.specs.Frames.{entry_frames}
use Rattle.market_types.specs.Timely.{IsTimely}
use Rattle.kernel_copy.proofs.kept.put_rest.Given as goal

abbrev pub invariant-entries : goal.invariant-entries
invariant-entries l = record {
  timely : All IsTimely l.walk;
  bytes : l.out.items ++ flat_map entry_frames l.walk ≡ l.fn.out.items ++ flat_map entry_frames l.fn.walk;
}

abbrev pub decreases-entries : goal.decreases-entries
decreases-entries l = length l.walk
