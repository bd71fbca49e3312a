use Rattle.std.proofs.Common.{◌≡◌, ◌+◌, arith}
use Rattle.market_floor.specs.Posted.{to_receiver}
use Rattle.kernel_core.proofs.Posted.{all_sent-next, sent-counts}
use Rattle.kernel_core.proofs.post.send_replies.Goals as goal

pub loop-reply-preserved : goal.loop-reply-preserved
loop-reply-preserved c =
    let o = c.args.o.now in
    let groups = c.args.groups.now in
    let from = c.args.from in
    let leave = c.args.leave in
    let p = c.loop-reply.mail in
    let sends = c.post.ensures.sent in
    let counts = sent-counts to_receiver o groups from leave p c.post.new.self c.args.replies.now c.loop-reply.reply-index _ sends in
    record {
      rest = all_sent-next to_receiver o groups from leave p c.post.new.self _ c.args.replies.now c.loop-reply.reply-index _ c.loop-reply-test.true sends c.loop-reply.invariant.rest;
      numbers = omega (arith, counts.0, c.loop-reply.invariant.numbers);
      drops = omega (arith, counts.1, c.loop-reply.invariant.drops);
    }
