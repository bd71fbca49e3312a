use Rattle.std.proofs.Common.{◌≡◌, ◌≤◌, ◌+◌, drop, map}
use Rattle.market_floor.specs.Posted.{to_exchange}
use Rattle.kernel_core.specs.Send.{all_sent}
use Rattle.kernel_core.proofs.post.send_sendings.Given as goal

abbrev pub invariant-loop-sending : goal.invariant-loop-sending
invariant-loop-sending l = record {
  rest : all_sent l.o l.groups l.from l.leave l.mail (map to_exchange (drop l.sending-index l.sends)) ≡ all_sent l.o l.groups l.from l.leave l.initial.mail (map to_exchange l.sends);
  numbers : l.mail.next_seq ≤ l.initial.mail.next_seq + l.sending-index;
  drops : l.mail.dropped ≤ l.initial.mail.dropped + l.sending-index;
}
