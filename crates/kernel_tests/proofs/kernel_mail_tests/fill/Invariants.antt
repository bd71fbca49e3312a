use Rattle.std.proofs.Common.{◌≡◌, ◌+◌}
use Rattle.kernel_tests.proofs.kernel_mail_tests.fill.Given as goal

abbrev pub invariant-loop-i : goal.invariant-loop-i
invariant-loop-i l = l.mail.next_seq + l.mail.dropped ≡ l.initial.mail.next_seq + l.initial.mail.dropped + l.i
