use Rattle.std.proofs.Common.{rules}
use Rattle.std.proofs.lemmas.List.Sorted.{IsPermutation-trans, IsPermutation-cons}
use Rattle.event_queue.proofs.heaps.move_top.Goals as goal

pub returns-clause-moved : goal.returns-clause-moved
returns-clause-moved c =
    let back = IsPermutation-trans _ _ _ (IsPermutation-cons c.delayed.result _ _ c.in_ok-top.ensures.rest) (c.drop-top.ensures.permutation (search rules)) in
    let told = rw c.delayed.ensures at back in
    search rules
