-- Replies of the exchange as messages of OUCH 4.2.
use Rattle.std.specs.Prelude.{ℕ, ◌==◌, List, [], ◌∷◌, Option, Some, None, if◌then◌else◌}
use Rattle.market_types.specs.declared.reply.Reply.{Reply}
use Rattle.market_types.specs.declared.reply.Reply.TheVariants.{System, Accepted, Canceled, Executed, Rejected}
use Rattle.wire_fields.specs.declared.kind.Kind.{Kind}
use Rattle.wire_fields.specs.Values.{number, bytes, side_letter}
use Rattle.wire_fields.specs.Wire.{Wire}
use Rattle.ouch_codec.specs.Layouts.{system_kinds, accepted_kinds, canceled_kinds, executed_kinds, rejected_kinds}

-- The message of a reply: `S` is System Event, `A` Order Accepted, `C` Canceled Order, `E` Executed Order, `J` Rejected
-- Order.
abbrev pub reply_wire : Reply → Wire
reply_wire (System time code) = record { letter = 83; kinds = system_kinds; values = number time ∷ bytes (code ∷ []) ∷ [] }
reply_wire (Accepted time token side shares stock price tif firm display reference capacity sweep minimum cross state bbo) = record {
  letter = 65;
  kinds = accepted_kinds;
  values =
      number time ∷ bytes token.0 ∷ bytes (side_letter side ∷ []) ∷ number shares ∷ bytes stock.0 ∷ number price ∷ number tif
      ∷ bytes firm ∷ bytes (display ∷ []) ∷ number reference ∷ bytes (capacity ∷ []) ∷ bytes (sweep ∷ []) ∷ number minimum
      ∷ bytes (cross ∷ []) ∷ bytes (state ∷ []) ∷ bytes (bbo ∷ []) ∷ [];
}
reply_wire (Canceled time token decrement reason) = record {
  letter = 67;
  kinds = canceled_kinds;
  values = number time ∷ bytes token.0 ∷ number decrement ∷ bytes (reason ∷ []) ∷ [];
}
reply_wire (Executed time token shares price flag match_number) = record {
  letter = 69;
  kinds = executed_kinds;
  values = number time ∷ bytes token.0 ∷ number shares ∷ number price ∷ bytes (flag ∷ []) ∷ number match_number ∷ [];
}
reply_wire (Rejected time token reason) = record { letter = 74; kinds = rejected_kinds; values = number time ∷ bytes token.0 ∷ bytes (reason ∷ []) ∷ [] }

-- the fields of the type of a letter, `S`, `A`, `C`, `E` or `J`
abbrev pub reply_layout : ℕ → Option (List Kind)
reply_layout letter =
    if letter == 83 then Some system_kinds else
    (if letter == 65 then Some accepted_kinds else
    (if letter == 67 then Some canceled_kinds else
    (if letter == 69 then Some executed_kinds else
    (if letter == 74 then Some rejected_kinds else None))))
