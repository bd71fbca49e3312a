use Rattle.std.proofs.Common.{[], ◌∷◌, drop, refl, ap, ◌∙◌}
use Rattle.wire_fields.specs.Wire.{spelling}
use Rattle.wire_fields.proofs.Pushed.{IsBegun, pushed, finished, four_bytes, eight_bytes}
use Rattle.market_types.specs.declared.reply.Reply.TheVariants as reply
use Rattle.ouch_codec.specs.Outbound.{reply_wire}
use Rattle.ouch_codec.proofs.outbound.accepted.Goals as goal

pub returns-clause-spelling : goal.returns-clause-spelling
returns-clause-spelling c =
    let a = c.args in
    let w = reply_wire (reply.Accepted a.time a.token a.side a.shares a.stock a.price a.tif a.firm a.display a.reference a.capacity a.sweep a.minimum a.cross a.state a.bbo) in
    let begun : IsBegun (drop 2 w.kinds) (drop 2 w.values) (spelling w) c.started-bytes.result = record { whole = rw c.started-bytes.ensures.bytes refl } in
    let is1 = pushed _ _ _ _ _ _ _ _ begun c.push.ensures.bytes (ap (λ b. b ∷ []) c.side_letter.ensures) in
    let is2 = pushed _ _ _ _ _ _ _ _ is1 c.push-2.ensures.bytes (c.to_be_bytes.ensures ∙ four_bytes a.shares) in
    let is3 = pushed _ _ _ _ _ _ _ _ is2 c.push-3.ensures.bytes refl in
    let is4 = pushed _ _ _ _ _ _ _ _ is3 c.push-4.ensures.bytes (c.to_be_bytes-2.ensures ∙ four_bytes a.price) in
    let is5 = pushed _ _ _ _ _ _ _ _ is4 c.push-5.ensures.bytes (c.to_be_bytes-3.ensures ∙ four_bytes a.tif) in
    let is6 = pushed _ _ _ _ _ _ _ _ is5 c.push-6.ensures.bytes refl in
    let is7 = pushed _ _ _ _ _ _ _ _ is6 c.push-7.ensures.bytes refl in
    let is8 = pushed _ _ _ _ _ _ _ _ is7 c.push-8.ensures.bytes (c.to_be_bytes-4.ensures ∙ eight_bytes a.reference) in
    let is9 = pushed _ _ _ _ _ _ _ _ is8 c.push-9.ensures.bytes refl in
    let is10 = pushed _ _ _ _ _ _ _ _ is9 c.push-10.ensures.bytes refl in
    let is11 = pushed _ _ _ _ _ _ _ _ is10 c.push-11.ensures.bytes (c.to_be_bytes-5.ensures ∙ four_bytes a.minimum) in
    let is12 = pushed _ _ _ _ _ _ _ _ is11 c.push-12.ensures.bytes refl in
    let is13 = pushed _ _ _ _ _ _ _ _ is12 c.push-13.ensures.bytes refl in
    let is14 = pushed _ _ _ _ _ _ _ _ is13 c.push-14.ensures.bytes refl in
    finished _ _ is14
