-- Orders that are read from their bytes.
use Rattle.std.proofs.Common.{◌≡◌, ℕ, List, [], Option, None, Some, refl, ap, sym, ◌∙◌, if◌then◌else◌}
use Rattle.std.specs.Prelude.{is_none, unwrap_or, slice_index}
use Rattle.market_types.specs.declared.order.Inbound.{Inbound}
use Rattle.market_types.specs.declared.error.CodecError.{CodecError}
use Rattle.wire_fields.specs.declared.kind.Kind.{Kind}
use Rattle.wire_fields.specs.Wire.{IsSpelled, refusal, wire_at}
use Rattle.wire_fields.proofs.Spelled.{message_again}
use Rattle.ouch_codec.specs.Inbound.{inbound_wire, inbound_layout}
use Rattle.ouch_codec.specs.InboundBack.{inbound_of, inbound_told, inbound_back}
use Rattle.study_rules.specs.EditRules.{order_in}

layout-of : (bytes : List ℕ) (m : Inbound) → IsSpelled bytes (inbound_wire m)
    → unwrap_or (inbound_layout (slice_index bytes 0)) [] ≡ (inbound_wire m).kinds
layout-of bytes m is =
    ap (λ (bs : List ℕ). unwrap_or (inbound_layout (slice_index bs 0)) []) is.same
    ∙ ap (λ (o : Option (List Kind)). unwrap_or o []) (inbound_told m)

pub order-read : (bytes : List ℕ) (m : Inbound) → IsSpelled bytes (inbound_wire m) → None ≡ refusal inbound_layout bytes → Some m ≡ order_in bytes
order-read bytes m is none =
    ap Some (sym (inbound_back m) ∙ ap inbound_of (message_again (inbound_wire m).kinds bytes (inbound_wire m) refl is).same)
    ∙ ap (λ ks. Some (inbound_of (wire_at ks bytes))) (sym (layout-of bytes m is))
    ∙ ap (λ (o : Option CodecError). if is_none o then Some (inbound_of (wire_at (unwrap_or (inbound_layout (slice_index bytes 0)) []) bytes)) else None) none

pub order-refused : (bytes : List ℕ) (e : CodecError) → Some e ≡ refusal inbound_layout bytes → None ≡ order_in bytes
order-refused bytes e some =
    ap (λ (o : Option CodecError). if is_none o then Some (inbound_of (wire_at (unwrap_or (inbound_layout (slice_index bytes 0)) []) bytes)) else None) some
