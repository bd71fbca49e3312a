use Rattle.std.proofs.Common.{ℕ, cond, ltb, length, ap, arith}
use Rattle.event_queue.specs.Dues.{times_free}
use Rattle.event_queue.proofs.Slots.{times_free-last, last_free}
use Rattle.event_queue.proofs.queue.store.Goals as goal

pub returns-clause-unheld : goal.returns-clause-unheld
returns-clause-unheld c = last_free c.in-Some.slot c.pop.new.self.items c.args.free.now.items (length c.args.slots.now.items) c.in-Some.ensures.items

pub returns-clause-taken : goal.returns-clause-taken
returns-clause-taken c = λ n. omega (arith, times_free-last n c.in-Some.slot c.pop.new.self.items, ap (times_free n) c.in-Some.ensures.items, ap {B = ℕ} (λ (k : ℕ). cond (ltb n k) 1 0) c.write.ensures.same)
