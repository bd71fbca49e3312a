use Rattle.std.proofs.Common.{drop, refl, ◌∙◌}
use Rattle.wire_fields.specs.Wire.{spelling}
use Rattle.wire_fields.proofs.Pushed.{IsBegun, pushed, finished, four_bytes}
use Rattle.market_types.specs.declared.reply.Reply.TheVariants as reply
use Rattle.ouch_codec.specs.Outbound.{reply_wire}
use Rattle.ouch_codec.proofs.outbound.canceled.Goals as goal

pub returns-clause-spelling : goal.returns-clause-spelling
returns-clause-spelling c =
    let a = c.args in
    let w = reply_wire (reply.Canceled a.time a.token a.decrement a.reason) in
    let begun : IsBegun (drop 2 w.kinds) (drop 2 w.values) (spelling w) c.started-bytes.result = record { whole = rw c.started-bytes.ensures.bytes refl } in
    let is1 = pushed _ _ _ _ _ _ _ _ begun c.push.ensures.bytes (c.to_be_bytes.ensures ∙ four_bytes a.decrement) in
    let is2 = pushed _ _ _ _ _ _ _ _ is1 c.push-2.ensures.bytes refl in
    finished _ _ is2
