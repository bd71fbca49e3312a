use Rattle.std.proofs.Common.{◌≡◌, ◌++◌, drop}
use Rattle.std.specs.List.{flat_map}
use Rattle.bundle_frames.proofs.written.put_all.Given as goal

-- what was appended and what is still to come
abbrev pub invariant-loop-item : goal.invariant-loop-item
invariant-loop-item g l =
    l.out.items ++ flat_map g.W.Written.bytes (drop l.item-index l.items) ≡ l.initial.out.items ++ flat_map g.W.Written.bytes l.items
