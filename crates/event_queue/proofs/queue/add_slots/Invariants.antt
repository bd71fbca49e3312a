use Rattle.std.proofs.Common.{◌≡◌, ◌≤◌, ℕ, ◌+◌, cond, ltb, length, get_or}
use Rattle.std.specs.Prelude.{vec_len, vec_capacity}
use Rattle.event_queue.specs.Dues.{times_free, vacant}
use Rattle.event_queue.proofs.queue.add_slots.Given as goal

abbrev pub invariant-loop-i : goal.invariant-loop-i
invariant-loop-i l = record {
  same : (n : ℕ) → get_or l.slots.items n vacant ≡ get_or l.initial.slots.items n vacant;
  added : (n : ℕ) → times_free n l.free.items + cond (ltb n (length l.initial.slots.items)) 1 0 ≡ times_free n l.initial.free.items + cond (ltb n (length l.slots.items)) 1 0;
  len : vec_len l.slots ≡ vec_len l.initial.slots + l._i;
  free_len : vec_len l.free ≡ vec_len l.initial.free + l._i;
  capacity : vec_capacity l.initial.slots ≤ vec_capacity l.slots;
  free_capacity : vec_capacity l.initial.free ≤ vec_capacity l.free;
}
