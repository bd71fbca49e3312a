use Rattle.std.proofs.Common.{drop, refl, ◌∙◌}
use Rattle.wire_fields.specs.Values.{number}
use Rattle.wire_fields.specs.Wire.{spelling}
use Rattle.wire_fields.proofs.Pushed.{IsBegun, pushed, finished, four_bytes, eight_bytes}
use Rattle.market_types.specs.declared.feed.What.TheVariants as what
use Rattle.itch_codec.specs.Messages.{what_wire}
use Rattle.itch_codec.proofs.feed.cross.Goals as goal

pub returns-clause-spelling : goal.returns-clause-spelling
returns-clause-spelling c =
    let a = c.args in
    let w = what_wire (number a.m.now.locate) (number a.m.now.tracking) (number a.m.now.time) (what.Cross a.shares a.stock a.price a.match_number a.kind) in
    let begun : IsBegun (drop 3 w.kinds) (drop 3 w.values) (spelling w) c.started-bytes.result = record { whole = rw c.started-bytes.ensures.bytes refl } in
    let is1 = pushed _ _ _ _ _ _ _ _ begun c.push.ensures.bytes (c.to_be_bytes.ensures ∙ eight_bytes a.shares) in
    let is2 = pushed _ _ _ _ _ _ _ _ is1 c.push-2.ensures.bytes refl in
    let is3 = pushed _ _ _ _ _ _ _ _ is2 c.push-3.ensures.bytes (c.to_be_bytes-2.ensures ∙ four_bytes a.price) in
    let is4 = pushed _ _ _ _ _ _ _ _ is3 c.push-4.ensures.bytes (c.to_be_bytes-3.ensures ∙ eight_bytes a.match_number) in
    let is5 = pushed _ _ _ _ _ _ _ _ is4 c.push-5.ensures.bytes refl in
    finished _ _ is5
