use Rattle.std.proofs.Common.{◌≡◌, ◌+◌, ◌*◌, ◌≤◌, length}
use Rattle.std.specs.List.{sum}
use Rattle.std.specs.Slice.Iter.{chunks_rest, chunks_size}
use Rattle.kernel_copy.proofs.tally.total.Given as goal

abbrev pub invariant-loop-part : goal.invariant-loop-part
invariant-loop-part l =
    goal.iterator-loop-part.can_next l.part-iterator
    × goal.iterator-loop-part.is_finite l.part-iterator
    × (chunks_size l.part-iterator ≡ 256)
    × (l.total + sum (chunks_rest l.part-iterator) ≡ sum l.bytes)
    × (l.total + 255 * length (chunks_rest l.part-iterator) ≤ 255 * length l.bytes)
