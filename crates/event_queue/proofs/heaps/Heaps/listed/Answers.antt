use Rattle.std.proofs.Common.{List, ◌<◌, All, length, sym, subst}
use Rattle.std.specs.BinaryHeap.{heap_items}
use Rattle.event_queue.specs.Keys.{Due, Keys, all_of}
use Rattle.event_queue.proofs.Keys.{all_last}
use Rattle.event_queue.proofs.heaps.Heaps.listed.Goals as goal

pub list-requires-2 : goal.list-requires-2
list-requires-2 c =
    let all = subst (λ (r : Keys). All (λ (d : Due). d.slot < length c.args.slots.now) (all_of r)) (sym c.self.view_is) c.requires in
    let last = all_last (λ (d : Due). d.slot < length c.args.slots.now) (heap_items c.self.inside.others) (heap_items c.self.inside.wakeups) all in
    subst (λ (ds : List Due). All (λ (d : Due). d.slot < length c.args.slots.now) ds) (sym c.as_slice-2.ensures.value) last
