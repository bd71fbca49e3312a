use Rattle.std.proofs.Common.{◌≡◌, ◌≤◌, ◌+◌, drop}
use Rattle.kernel_core.specs.Open.{woken}
use Rattle.kernel_core.proofs.opened.wake_all.Given as goal

abbrev pub invariant-loop-i : goal.invariant-loop-i
invariant-loop-i l = record {
  rest : woken l.o (l.i + 1) l.mail (drop l.i l.settings) ≡ woken l.o 1 l.initial.mail l.settings;
  numbers : l.mail.next_seq ≤ l.i;
  drops : l.mail.dropped ≤ l.i;
}
