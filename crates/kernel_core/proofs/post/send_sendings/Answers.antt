use Rattle.std.proofs.Common.{◌≡◌, ◌+◌, ap, ◌∙◌, arith}
use Rattle.market_floor.specs.declared.posting.Posting.{Posting}
use Rattle.market_floor.specs.Posted.{to_exchange}
use Rattle.kernel_core.specs.Send.{sent}
use Rattle.kernel_core.proofs.Posted.{all_sent-next, sent-counts}
use Rattle.kernel_core.proofs.post.send_sendings.Goals as goal

pub loop-sending-preserved : goal.loop-sending-preserved
loop-sending-preserved c =
    let o = c.args.o.now in
    let groups = c.args.groups.now in
    let from = c.args.from in
    let leave = c.args.leave in
    let p = c.loop-sending.mail in
    let sends = c.post.ensures.sent ∙ ap (λ (y : Posting). sent o groups from leave p y) c.sending_seen.ensures in
    let counts = sent-counts to_exchange o groups from leave p c.post.new.self c.args.sends.now c.loop-sending.sending-index _ sends in
    record {
      rest = all_sent-next to_exchange o groups from leave p c.post.new.self _ c.args.sends.now c.loop-sending.sending-index _ c.loop-sending-test.true sends c.loop-sending.invariant.rest;
      numbers = omega (arith, counts.0, c.loop-sending.invariant.numbers);
      drops = omega (arith, counts.1, c.loop-sending.invariant.drops);
    }
