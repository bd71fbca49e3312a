use Rattle.std.proofs.Common.{◌≡◌, ◌≤◌, ◌+◌, drop, map}
use Rattle.market_floor.specs.Posted.{to_receiver}
use Rattle.kernel_core.specs.Send.{all_sent}
use Rattle.kernel_core.proofs.post.send_replies.Given as goal

abbrev pub invariant-loop-reply : goal.invariant-loop-reply
invariant-loop-reply l = record {
  rest : all_sent l.o l.groups l.from l.leave l.mail (map to_receiver (drop l.reply-index l.replies)) ≡ all_sent l.o l.groups l.from l.leave l.initial.mail (map to_receiver l.replies);
  numbers : l.mail.next_seq ≤ l.initial.mail.next_seq + l.reply-index;
  drops : l.mail.dropped ≤ l.initial.mail.dropped + l.reply-index;
}
