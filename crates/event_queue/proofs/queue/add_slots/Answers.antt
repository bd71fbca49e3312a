use Rattle.std.proofs.Common.{◌≡◌, ◌++◌, ◌∷◌, [], ◌∙◌, length, get_or, ap, List, rules}
use Rattle.market_types.specs.declared.message.Message.{Message}
use Rattle.event_queue.specs.Dues.{vacant}
use Rattle.event_queue.proofs.Slots.{added_one, vacant_last}
use Rattle.event_queue.proofs.queue.add_slots.Goals as goal

pub loop-i-preserved : goal.loop-i-preserved
loop-i-preserved c =
    let i = c.loop-i.invariant in
    let slots = c.loop-i.slots.items in
    let free = c.loop-i.free.items in
    let last : c.len.result ≡ length slots = search rules in
    let told : c.put.new.list.items ≡ free ++ length slots ∷ [] = rw last at c.put.ensures.items in
    let grown : c.put-in-loop-i.new.list.items ≡ slots ++ vacant ∷ [] = c.put-in-loop-i.ensures.items in
    record {
      same = λ n. ap (λ (s : List Message). get_or s n vacant) grown ∙ vacant_last slots n ∙ i.same n;
      added = λ n. rw (told, grown) (added_one n c.args.slots.now.items slots c.args.free.now.items free (i.added n));
      len = search rules;
      free_len = search rules;
      capacity = search rules;
      free_capacity = search rules;
    }
