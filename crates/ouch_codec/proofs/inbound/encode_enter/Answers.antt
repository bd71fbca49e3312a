use Rattle.std.proofs.Common.{[], ◌∷◌, refl, ap, ◌∙◌}
use Rattle.wire_fields.specs.Wire.{spelling}
use Rattle.wire_fields.proofs.Pushed.{IsBegun, pushed, finished, four_bytes}
use Rattle.market_types.specs.declared.order.Inbound.TheVariants as inbound
use Rattle.ouch_codec.specs.Inbound.{inbound_wire, enter_values}
use Rattle.ouch_codec.specs.Layouts.{enter_kinds}
use Rattle.ouch_codec.proofs.inbound.encode_enter.Goals as goal

pub returns-clause-spelling : goal.returns-clause-spelling
returns-clause-spelling c =
    let m = c.args.m.now in
    let begun : IsBegun (enter_kinds) (enter_values m) (spelling (inbound_wire (inbound.Enter m))) c.begun-bytes.result = record { whole = rw c.begun-bytes.ensures refl } in
    let is1 = pushed _ _ _ _ _ _ _ _ begun c.push.ensures.bytes refl in
    let is2 = pushed _ _ _ _ _ _ _ _ is1 c.push-2.ensures.bytes (ap (λ b. b ∷ []) c.side_letter.ensures) in
    let is3 = pushed _ _ _ _ _ _ _ _ is2 c.push-3.ensures.bytes (c.to_be_bytes.ensures ∙ four_bytes m.shares) in
    let is4 = pushed _ _ _ _ _ _ _ _ is3 c.push-4.ensures.bytes refl in
    let is5 = pushed _ _ _ _ _ _ _ _ is4 c.push-5.ensures.bytes (c.to_be_bytes-2.ensures ∙ four_bytes m.price) in
    let is6 = pushed _ _ _ _ _ _ _ _ is5 c.push-6.ensures.bytes (c.to_be_bytes-3.ensures ∙ four_bytes m.tif) in
    let is7 = pushed _ _ _ _ _ _ _ _ is6 c.push-7.ensures.bytes refl in
    let is8 = pushed _ _ _ _ _ _ _ _ is7 c.push-8.ensures.bytes refl in
    let is9 = pushed _ _ _ _ _ _ _ _ is8 c.push-9.ensures.bytes refl in
    let is10 = pushed _ _ _ _ _ _ _ _ is9 c.push-10.ensures.bytes refl in
    let is11 = pushed _ _ _ _ _ _ _ _ is10 c.push-11.ensures.bytes (c.to_be_bytes-4.ensures ∙ four_bytes m.minimum) in
    let is12 = pushed _ _ _ _ _ _ _ _ is11 c.push-12.ensures.bytes refl in
    let is13 = pushed _ _ _ _ _ _ _ _ is12 c.push-13.ensures.bytes refl in
    c.to_array.ensures ∙ finished _ _ is13

pub returns-clause-spelled : goal.returns-clause-spelled
returns-clause-spelled c = λ in_range. record { same = returns-clause-spelling c; in_range = in_range }
