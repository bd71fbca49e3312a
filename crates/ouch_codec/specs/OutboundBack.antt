-- The types of replies, and how a reply comes back from its message.
use Rattle.std.specs.Prelude.{◌≡◌, ℕ, ◌==◌, List, Some, refl, if◌then◌else◌}
use Rattle.std.proofs.Common.{ap}
use Rattle.market_types.specs.declared.order.Side.{Side}
use Rattle.market_types.specs.declared.reply.Reply.{Reply}
use Rattle.market_types.specs.declared.reply.Reply.TheVariants.{System, Accepted, Canceled, Executed, Rejected}
use Rattle.wire_fields.specs.declared.kind.Kind.{Kind}
use Rattle.wire_fields.specs.Values.{FieldValue}
use Rattle.wire_fields.specs.Wire.{Wire}
use Rattle.wire_fields.specs.Back.{number_in, bytes_in, byte_in, side_in, side_back}
use Rattle.ouch_codec.specs.declared.outbound.ReplyType.{ReplyType}
use Rattle.ouch_codec.specs.declared.outbound.ReplyType.TheVariants as reply
use Rattle.ouch_codec.specs.Layouts.{system_kinds, accepted_kinds, canceled_kinds, executed_kinds, rejected_kinds}
use Rattle.ouch_codec.specs.Outbound.{reply_wire, reply_layout}

-- the letter of a type, `S`, `A`, `C`, `E` or `J`
abbrev pub reply_letter : ReplyType → ℕ
reply_letter reply.System = 83
reply_letter reply.Accepted = 65
reply_letter reply.Canceled = 67
reply_letter reply.Executed = 69
reply_letter reply.Rejected = 74

-- the fields of a type
abbrev pub reply_kinds : ReplyType → List Kind
reply_kinds reply.System = system_kinds
reply_kinds reply.Accepted = accepted_kinds
reply_kinds reply.Canceled = canceled_kinds
reply_kinds reply.Executed = executed_kinds
reply_kinds reply.Rejected = rejected_kinds

abbrev pub system_in : List FieldValue → Reply
system_in vs = System (number_in vs 0) (byte_in vs 1)

-- the Order Accepted of these values, on a side
abbrev pub accepted_on : List FieldValue → Side → Reply
accepted_on vs side =
    Accepted (number_in vs 0) (record { 0 = bytes_in vs 1 }) side (number_in vs 3) (record { 0 = bytes_in vs 4 }) (number_in vs 5) (number_in vs 6)
    (bytes_in vs 7) (byte_in vs 8) (number_in vs 9) (byte_in vs 10) (byte_in vs 11) (number_in vs 12) (byte_in vs 13) (byte_in vs 14) (byte_in vs 15)

abbrev pub canceled_in : List FieldValue → Reply
canceled_in vs = Canceled (number_in vs 0) (record { 0 = bytes_in vs 1 }) (number_in vs 2) (byte_in vs 3)

abbrev pub executed_in : List FieldValue → Reply
executed_in vs = Executed (number_in vs 0) (record { 0 = bytes_in vs 1 }) (number_in vs 2) (number_in vs 3) (byte_in vs 4) (number_in vs 5)

abbrev pub rejected_in : List FieldValue → Reply
rejected_in vs = Rejected (number_in vs 0) (record { 0 = bytes_in vs 1 }) (byte_in vs 2)

-- the reply of a message
abbrev pub reply_of : Wire → Reply
reply_of w =
    if w.letter == 83 then system_in w.values else
    (if w.letter == 65 then accepted_on w.values (side_in w.values 2) else
    (if w.letter == 67 then canceled_in w.values else
    (if w.letter == 69 then executed_in w.values else
    rejected_in w.values)))

pub reply_told : (m : Reply) → reply_layout (reply_wire m).letter ≡ Some (reply_wire m).kinds
reply_told (System time code) = refl
reply_told (Accepted time token side shares stock price tif firm display reference capacity sweep minimum cross state bbo) = refl
reply_told (Canceled time token decrement reason) = refl
reply_told (Executed time token shares price flag match_number) = refl
reply_told (Rejected time token reason) = refl

pub reply_back : (m : Reply) → reply_of (reply_wire m) ≡ m
reply_back (System time code) = refl
reply_back (Accepted time token side shares stock price tif firm display reference capacity sweep minimum cross state bbo) =
    let message : Reply = Accepted time token side shares stock price tif firm display reference capacity sweep minimum cross state bbo in
    ap (accepted_on (reply_wire message).values) (side_back side)
reply_back (Canceled time token decrement reason) = refl
reply_back (Executed time token shares price flag match_number) = refl
reply_back (Rejected time token reason) = refl
