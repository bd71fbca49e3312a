use Rattle.market_floor.specs.Reaction.{most_posted}
use Rattle.std.proofs.Common.{◌≡◌, ◌≤◌, ◌+◌, ◌-◌, All, max}
use Rattle.market_types.specs.Timely.{IsTimely}
use Rattle.market_rules.specs.declared.edit.Edit.{Edit}
use Rattle.kernel_core.specs.Due.{until_time}
use Rattle.kernel_core.specs.Edited.{IsEditOf}
use Rattle.kernel_core.specs.Seen.{afresh, folded}
use Rattle.kernel_core.specs.State.{State}
use Rattle.kernel_core.specs.Step.{Fits}
use Rattle.kernel_core.specs.Until.{advanced_by}
use Rattle.kernel_core.proofs.kernel.Kernel.run_into_time.Given as goal

abbrev pub invariant-events : goal.invariant-events
invariant-events g l = record {
  fits : Fits l.o l.self;
  made : ◌≡◌ {A = State} l.self (advanced_by (l.self.events - l.initial.self.events) l.o (afresh l.initial.self)).state;
  kept : g.K.Keeper.told l.keeper ≡ folded g.K.Keeper.with (g.K.Keeper.told l.initial.keeper) (advanced_by (l.self.events - l.initial.self.events) l.o (afresh l.initial.self)).entries;
  timely : All IsTimely (advanced_by (l.self.events - l.initial.self.events) l.o (afresh l.initial.self)).entries;
  grows : l.initial.self.events ≤ l.self.events;
  rest : until_time l.o l.when l.most (advanced_by (l.self.events - l.initial.self.events) l.o (afresh l.initial.self)) ≡ until_time l.o l.when l.most (afresh l.initial.self);
  ticks : l.steps + l.initial.self.events ≡ l.initial.steps + l.self.events;
  offsets : l.self.floor.offsets ≡ l.initial.self.floor.offsets;
  editable : (e : Edit) → IsEditOf l.initial.self e → IsEditOf l.self e;
  drops : l.self.post.dropped ≤ max l.initial.self.post.dropped most_posted;
}

abbrev pub decreases-events : goal.decreases-events
decreases-events g l = l.most - l.self.events
