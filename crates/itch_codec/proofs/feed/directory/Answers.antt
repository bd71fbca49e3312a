use Rattle.std.proofs.Common.{drop, refl, ◌∙◌}
use Rattle.wire_fields.specs.Values.{number}
use Rattle.wire_fields.specs.Wire.{spelling}
use Rattle.wire_fields.proofs.Pushed.{IsBegun, pushed, finished, four_bytes}
use Rattle.market_types.specs.declared.feed.What.TheVariants as what
use Rattle.itch_codec.specs.Messages.{what_wire}
use Rattle.itch_codec.proofs.feed.directory.Goals as goal

pub returns-clause-spelling : goal.returns-clause-spelling
returns-clause-spelling c =
    let a = c.args in
    let d = c.in-Directory in
    let w = what_wire (number a.m.now.locate) (number a.m.now.tracking) (number a.m.now.time) (what.Directory d.stock d.category d.financial d.lot d.lots_only d.class d.sub_type d.authenticity d.short_sale d.ipo d.tier d.etp d.leverage d.inverse) in
    let begun : IsBegun (drop 3 w.kinds) (drop 3 w.values) (spelling w) c.started-bytes.result = record { whole = rw c.started-bytes.ensures.bytes refl } in
    let is1 = pushed _ _ _ _ _ _ _ _ begun c.push.ensures.bytes refl in
    let is2 = pushed _ _ _ _ _ _ _ _ is1 c.push-2.ensures.bytes refl in
    let is3 = pushed _ _ _ _ _ _ _ _ is2 c.push-3.ensures.bytes refl in
    let is4 = pushed _ _ _ _ _ _ _ _ is3 c.push-4.ensures.bytes (c.to_be_bytes.ensures ∙ four_bytes d.lot) in
    let is5 = pushed _ _ _ _ _ _ _ _ is4 c.push-5.ensures.bytes refl in
    let is6 = pushed _ _ _ _ _ _ _ _ is5 c.push-6.ensures.bytes refl in
    let is7 = pushed _ _ _ _ _ _ _ _ is6 c.push-7.ensures.bytes refl in
    let is8 = pushed _ _ _ _ _ _ _ _ is7 c.push-8.ensures.bytes refl in
    let is9 = pushed _ _ _ _ _ _ _ _ is8 c.push-9.ensures.bytes refl in
    let is10 = pushed _ _ _ _ _ _ _ _ is9 c.push-10.ensures.bytes refl in
    let is11 = pushed _ _ _ _ _ _ _ _ is10 c.push-11.ensures.bytes refl in
    let is12 = pushed _ _ _ _ _ _ _ _ is11 c.push-12.ensures.bytes refl in
    let is13 = pushed _ _ _ _ _ _ _ _ is12 c.push-13.ensures.bytes (c.to_be_bytes-2.ensures ∙ four_bytes d.leverage) in
    let is14 = pushed _ _ _ _ _ _ _ _ is13 c.push-14.ensures.bytes refl in
    finished _ _ is14 ∙ rw d.is refl
