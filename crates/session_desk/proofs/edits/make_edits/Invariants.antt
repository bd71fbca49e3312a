use Rattle.std.proofs.Common.{◌≡◌, ◌+◌, drop}
use Rattle.kernel_core.specs.Edited.{edited_from}
use Rattle.kernel_core.specs.Until.{Run}
use Rattle.kernel_copy.specs.Reached.{IsReached}
use Rattle.session_desk.specs.Along.{BeginWith, event_count}
use Rattle.session_desk.proofs.edits.make_edits.Given as goal

abbrev pub invariant-loop-i : goal.invariant-loop-i
invariant-loop-i l = record {
  rest : ◌≡◌ {A = Run} (edited_from l.branch l.i (drop l.i l.edits) (record { state = l.kernel; entries = l.trace.list })) (edited_from l.branch 0 l.edits (record { state = l.initial.kernel; entries = l.initial.trace.list }));
  reached : IsReached l.o (4080 + l.i) l.kernel;
  kept : BeginWith l.trace.list l.initial.trace.list;
  counted : event_count l.trace.list ≡ event_count l.initial.trace.list;
  events : l.kernel.events ≡ l.initial.kernel.events;
}
