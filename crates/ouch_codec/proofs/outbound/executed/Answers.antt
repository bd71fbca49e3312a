use Rattle.std.proofs.Common.{drop, refl, ◌∙◌}
use Rattle.wire_fields.specs.Wire.{spelling}
use Rattle.wire_fields.proofs.Pushed.{IsBegun, pushed, finished, four_bytes, eight_bytes}
use Rattle.market_types.specs.declared.reply.Reply.TheVariants as reply
use Rattle.ouch_codec.specs.Outbound.{reply_wire}
use Rattle.ouch_codec.proofs.outbound.executed.Goals as goal

pub returns-clause-spelling : goal.returns-clause-spelling
returns-clause-spelling c =
    let a = c.args in
    let w = reply_wire (reply.Executed a.time a.token a.shares a.price a.flag a.match_number) in
    let begun : IsBegun (drop 2 w.kinds) (drop 2 w.values) (spelling w) c.started-bytes.result = record { whole = rw c.started-bytes.ensures.bytes refl } in
    let is1 = pushed _ _ _ _ _ _ _ _ begun c.push.ensures.bytes (c.to_be_bytes.ensures ∙ four_bytes a.shares) in
    let is2 = pushed _ _ _ _ _ _ _ _ is1 c.push-2.ensures.bytes (c.to_be_bytes-2.ensures ∙ four_bytes a.price) in
    let is3 = pushed _ _ _ _ _ _ _ _ is2 c.push-3.ensures.bytes refl in
    let is4 = pushed _ _ _ _ _ _ _ _ is3 c.push-4.ensures.bytes (c.to_be_bytes-3.ensures ∙ eight_bytes a.match_number) in
    finished _ _ is4
